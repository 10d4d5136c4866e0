-- What a reader has cut. Assumes nothing.
use Rattle.std.specs.Prelude.{◌≡◌, ℕ, ◌+◌, true, false, List, Ok, Err, Result}
use Rattle.text.specs.declared.faults.Section.{Section}
use Rattle.text.specs.declared.faults.Spot.{Spot}
use Rattle.text.specs.declared.faults.LineDue.{LineDue}
use Rattle.text.specs.declared.reader.Reader.{Reader}
use Rattle.text.specs.declared.reader.Field.{Field}
use Rattle.text.specs.Cuts.{before, from, row, below, ended, next, past}

-- where a reader stands: the number of the line that it has come to, and the text after this line
pub record Place : Type 0 where
  pub line : ℕ
  pub rest : List ℕ

abbrev pub stand : Reader → Place
stand reader = record { line = reader.spot.line; rest = reader.rest.now }

-- the spot of the line after a place, and the place after that line
abbrev pub spot_at : Section → Place → Spot
spot_at section p = record { section = section; line = p.line + 1 }

abbrev pub pass : Place → Place
pass p = record { line = p.line + 1; rest = below p.rest }

-- a part of the sheet, where it stands
pub record FieldIs (f : Field) (piece : List ℕ) (at : Spot) (k : ℕ) : Type 0 where
  pub bytes : f.bytes.now ≡ piece
  pub spot : f.spot ≡ at
  pub place : f.place ≡ k

-- a line was begun, and f is its first field
pub record First (section : Section) (a b : Reader) (f : Field) : Type 0 where
  pub whole : ended a.rest.now ≡ true
  pub field : FieldIs f (before 32 (row a.rest.now)) (spot_at section (stand a)) 1
  pub left : b.row.now ≡ from 32 (row a.rest.now)
  pub rest : b.rest.now ≡ below a.rest.now
  pub spot : b.spot ≡ spot_at section (stand a)
  pub place : b.place ≡ 1

abbrev pub Began : Section → Reader → Reader → Result Field LineDue → Type 0
Began section a b (Ok f) = First section a b f
Began section a b (Err e) = (ended a.rest.now ≡ false) × (e ≡ record { spot = spot_at section (stand a) })

-- f is the next field of the line
pub record Next (a b : Reader) (f : Field) : Type 0 where
  pub field : FieldIs f (next a.row.now) a.spot (a.place + 1)
  pub left : b.row.now ≡ past a.row.now
  pub rest : b.rest ≡ a.rest
  pub spot : b.spot ≡ a.spot
  pub place : b.place ≡ a.place + 1
