-- What stands of a month that has begun stays, whatever is called later. Assumes nothing.
use Rattle.std.specs.Prelude.{◌≡◌, ℕ, ◌≤◌, List}
use Rattle.rules.specs.declared.rows.Stage.TheVariants.{SetUp}
use Rattle.rules.specs.Ledger.{Ledger}
use Rattle.rules.specs.Payments.{payment}
use Rattle.rules.specs.Positions.{position}
use Rattle.rules.specs.Rents.{deduction}
use Rattle.rules.specs.Runs.{Call, after_all}

pub record Begun (l : Ledger) (m : ℕ) : Type 0 where
  pub low : 1 ≤ m
  pub high : m ≤ l.month
  pub set_up : l.stage ≡ SetUp → ⊥

-- Position, payment and deduction are fixed when the month begins.
pub record Fixed (l later : Ledger) (m : ℕ) : Type 0 where
  pub still : Begun later m
  pub held : (r : ℕ) → position later.standing r m ≡ position l.standing r m
  pub paid : (r : ℕ) → payment later.standing r m ≡ payment l.standing r m
  pub deducted : (r : ℕ) → deduction later.standing later.rents r m ≡ deduction l.standing l.rents r m

abbrev pub BegunMonthsFixed : Type 0
BegunMonthsFixed = (l : Ledger) (m : ℕ) (calls : List Call) → Begun l m → Fixed l (after_all l calls) m
