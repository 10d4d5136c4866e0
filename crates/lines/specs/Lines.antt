-- The fields of a line of each kind, and what the line says. Assumes nothing.
use Rattle.std.specs.Prelude.{◌≡◌, ℕ, zero, suc, ◌+◌, Bool, true, false, cond, ◌&&◌, List, Ok, Err, Result, MatchResult}
use Rattle.text.specs.declared.faults.Section.{Section}
use Rattle.text.specs.declared.faults.Spot.{Spot}
use Rattle.text.specs.declared.faults.FieldFault.{FieldFault}
use Rattle.text.specs.declared.reader.Reader.{Reader}
use Rattle.text.specs.declared.reader.Field.{Field}
use Rattle.text.specs.Cuts.{before, from, row, ended, next, past}
use Rattle.text.specs.Fields.{FieldIs, First, Place, stand, spot_at, pass}
use Rattle.text.specs.Formats.{then, letter_is}
use Rattle.lines.specs.declared.faults.LineFault.{LineFault}
use Rattle.lines.specs.declared.faults.LineFault.TheVariants.{Due}
use Rattle.rules.specs.declared.entry.Entry.{Entry}
use Rattle.lines.specs.declared.line.Line.{Line}
use Rattle.lines.specs.declared.line.OpeningLine.{OpeningLine}
use Rattle.lines.specs.declared.line.CountLine.{CountLine}
use Rattle.lines.specs.declared.line.ZoneLine.{ZoneLine}
use Rattle.lines.specs.declared.line.ResourceLine.{ResourceLine}
use Rattle.lines.specs.declared.line.LoadLine.{LoadLine}
use Rattle.lines.specs.declared.line.BilateralLine.{BilateralLine}
use Rattle.lines.specs.declared.line.AuctionLine.{AuctionLine}
use Rattle.lines.specs.declared.line.Line.TheVariants.{Opening, Count, Zone, Resource, Load, Bilateral, Auction}
use Rattle.lines.specs.Faults.{of_field}
use Rattle.lines.specs.Kinds.{section_letter, opening_row, count_row, zone_row, resource_row, load_row, bilateral_row, auction_row}

-- f is the first field of the row s; the k-th of the fields after the first; or what is left after k of these
abbrev pub Leads : Field → List ℕ → Spot → Type 0
Leads f s at = FieldIs f (before 32 s) at 1

abbrev pub after : ℕ → List ℕ → List ℕ
after zero s = from 32 s
after (suc k) s = past (after k s)

abbrev pub Follows : ℕ → Field → List ℕ → Spot → Type 0
Follows k f s at = FieldIs f (next (after k s)) at (k + 2)

abbrev pub Ends : ℕ → Field → List ℕ → Spot → Type 0
Ends k f s at = FieldIs f (after k s) at (k + 2)

-- the parts of a row that is a line of a kind
abbrev pub OpeningParts : OpeningLine → List ℕ → Spot → Type 0
OpeningParts l s at = Leads l.letter s at × Follows 0 l.year s at × Follows 1 l.peak s at × Ends 2 l.tail s at

abbrev pub CountParts : CountLine → List ℕ → Spot → Type 0
CountParts l s at = Leads l.letter s at × Follows 0 l.count s at × Ends 1 l.tail s at

abbrev pub ZoneParts : ZoneLine → List ℕ → Spot → Type 0
ZoneParts l s at = Leads l.price s at × Ends 0 l.rents s at

abbrev pub ResourceParts : ResourceLine → List ℕ → Spot → Type 0
ResourceParts l s at = Leads l.zone s at × Follows 0 l.class s at × Follows 1 l.cleared s at × Follows 2 l.supplied s at × Ends 3 l.tail s at

abbrev pub LoadParts : LoadLine → List ℕ → Spot → Type 0
LoadParts l s at = Leads l.zone s at × Follows 0 l.obligation s at × Ends 1 l.tail s at

abbrev pub BilateralParts : BilateralLine → List ℕ → Spot → Type 0
BilateralParts l s at = Leads l.letter s at × Follows 0 l.shedder s at × Follows 1 l.acquirer s at × Follows 2 l.first s at × Follows 3 l.last s at × Follows 4 l.quantity s at × Follows 5 l.price s at × Ends 6 l.tail s at

abbrev pub AuctionParts : AuctionLine → List ℕ → Spot → Type 0
AuctionParts l s at = Leads l.letter s at × Follows 0 l.resource s at × Follows 1 l.first s at × Follows 2 l.last s at × Follows 3 l.quantity s at × Follows 4 l.price s at × Ends 5 l.tail s at

abbrev pub Parts : Line → List ℕ → Spot → Type 0
Parts (Opening l) s at = OpeningParts l s at
Parts (Count l) s at = CountParts l s at
Parts (Zone l) s at = ZoneParts l s at
Parts (Resource l) s at = ResourceParts l s at
Parts (Load l) s at = LoadParts l s at
Parts (Bilateral l) s at = BilateralParts l s at
Parts (Auction l) s at = AuctionParts l s at

-- what the row of a line says; a line of another kind is at fault in its first field
abbrev pub other : {A : Type 0} → Spot → Result A FieldFault
other at = Err (record { spot = at; place = 1 })

abbrev pub opening_of : Line → Spot → List ℕ → Result (ℕ × ℕ) FieldFault
opening_of (Opening l) at s = opening_row at s
opening_of _ at s = other at

abbrev pub count_of : ℕ → Line → Spot → List ℕ → Result ℕ FieldFault
count_of c (Count l) at s = count_row c at s
count_of c _ at s = other at

abbrev pub entry_of : Line → Spot → List ℕ → Result Entry FieldFault
entry_of (Zone l) at s = zone_row at s
entry_of (Resource l) at s = resource_row at s
entry_of (Load l) at s = load_row at s
entry_of (Bilateral l) at s = bilateral_row at s
entry_of (Auction l) at s = auction_row at s
entry_of _ at s = other at

-- an answer with the state that it leaves, and that state alone; a fault leaves none that counts
abbrev pub ending : {A S F : Type 0} → Result A F → S → Result (A × S) F
ending (Ok x) s = Ok (x, s)
ending (Err e) s = Err e

abbrev pub settled : {A S F : Type 0} → Result A F → S → Result S F
settled (Ok x) s = Ok s
settled (Err e) s = Err e

-- the next line of a section, by what its row says
unfoldable pub line_at : {A : Type 0} → Section → (Spot → List ℕ → Result A LineFault) → Place → Result (A × Place) LineFault
line_at section read p = cond (ended p.rest) (then (read (spot_at section p) (row p.rest)) (λ x. Ok (x, pass p))) (Err (Due (spot_at section p)))

-- the next line is there, and its first field is the letter of the section
abbrev pub led : Section → Place → Bool
led section p = ended p.rest && letter_is (section_letter section) (before 32 (row p.rest))

-- a line was begun whose first field f is that letter; or none is there
abbrev pub Led : Section → Reader → Reader → Result Field LineFault → Type 0
Led section a b r =
    MatchResult r
    (λ f. First section a b f × (led section (stand a) ≡ true))
    (λ e. (led section (stand a) ≡ false) × (e ≡ Due (spot_at section (stand a))))

-- the reader a went over a line to b, and cut it: its row says what its kind says
pub record Cut {A : Type 0} (section : Section) (read : Spot → List ℕ → Result A LineFault) (of : Line → Spot → List ℕ → Result A FieldFault) (a b : Reader) (l : Line) : Type 0 where
  pub whole : ended (stand a).rest ≡ true
  pub sort : read (spot_at section (stand a)) (row (stand a).rest) ≡ of_field (of l (spot_at section (stand a)) (row (stand a).rest))
  pub parts : Parts l (row (stand a).rest) (spot_at section (stand a))
  pub place : stand b ≡ pass (stand a)
  pub spot : b.spot ≡ spot_at section (stand a)

abbrev pub Cuts : {A : Type 0} → Section → (Spot → List ℕ → Result A LineFault) → (Line → Spot → List ℕ → Result A FieldFault) → Reader → Reader → Result Line LineFault → Type 0
Cuts section read of a b r = MatchResult r (λ l. Cut section read of a b l) (λ e. line_at section read (stand a) ≡ Err e)

-- a line was cut whose first field is `letter`: the reader, which stood after that field, has gone over the others
abbrev pub Trade : (Spot → List ℕ → Result Entry FieldFault) → Field → Reader → Reader → Line → Type 0
Trade row letter a b l =
    ((s : List ℕ) (at : Spot) → Leads letter s at → a.row.now ≡ from 32 s → a.spot ≡ at → Parts l s at × (entry_of l at s ≡ row at s))
    × (b.rest ≡ a.rest) × (b.spot ≡ a.spot)

-- a zone's rents begin at the second field
abbrev pub RentsSecond : Line → Type 0
RentsSecond (Zone l) = l.rents.place ≡ 2
RentsSecond _ = Unit {0}
