-- The ledger of what a book holds, and what a book keeps, whatever is called. Assumes nothing.
use Rattle.std.specs.Prelude.{ℕ, []}
use Rattle.rules.specs.declared.rows.Stage.{Stage}
use Rattle.rules.specs.Entered.{Entered, TwelveRents}
use Rattle.rules.specs.Kept.{Kept}
use Rattle.rules.specs.Ledger.{Standing, Ledger}

-- it has no rents, events or postings yet
abbrev pub ledger_of : (year peak month : ℕ) → Stage → Standing → Ledger
ledger_of year peak month stage standing = record { year = year; peak = peak; month = month; stage = stage; standing = standing; rents = []; events = []; postings = [] }

-- limits, and positions that are those of the trades; entries that a fresh book would take again; twelve rents a zone
pub record Held (l : Ledger) : Type 0 where
  pub kept : Kept l
  pub entered : Entered l.year l.peak l.standing
  pub twelve : TwelveRents l.standing
