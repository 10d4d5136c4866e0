-- What every ledger of a run keeps. Assumes nothing.
use Rattle.std.specs.Prelude.{◌≡◌, ℕ, ◌*◌, ◌≤◌, List, pos, ◌+ℤ◌, ◌*ℤ◌, ◌≤ℤ◌, ◌<ℤ◌, unsigned_abs}
use Rattle.std.specs.List.{AllByRecursion}
use Rattle.rules.specs.declared.rows.Zone.{Zone}
use Rattle.rules.specs.declared.rows.Resource.{Resource}
use Rattle.rules.specs.declared.rows.Load.{Load}
use Rattle.rules.specs.declared.rows.Trade.{Trade}
use Rattle.rules.specs.declared.rows.Trade.TheVariants as trade
use Rattle.rules.specs.declared.rows.Rent.{Rent}
use Rattle.rules.specs.declared.rows.Posting.{Posting}
use Rattle.rules.specs.declared.rows.Stage.{Stage}
use Rattle.rules.specs.declared.rows.Stage.TheVariants.{SetUp, Running, Closed}
use Rattle.rules.specs.Ledger.{Standing, Ledger, zone_of, price_of}
use Rattle.rules.specs.Penalties.{day_penalty, month_penalty, penalties_since_june}
use Rattle.rules.specs.Positions.{position, annual}
use Rattle.rules.specs.Rents.{deductions_since_june}
use Rattle.rules.specs.Sums.{Known, RowRight}
use Rattle.rules.specs.Totals.{◌÷◌}

-- the parties of a trade are resources of the book, those of a bilateral of one zone
abbrev pub TradeSound : Standing → Trade → Type 0
TradeSound s (trade.Bilateral b) = Known s b.shedder × Known s b.acquirer × (zone_of s b.shedder ≡ zone_of s b.acquirer)
TradeSound s (trade.Auction a) = Known s a.resource

-- a posting is of a resource of the book, and of a month that has begun
pub record PostingSound (s : Standing) (b : ℕ) (p : Posting) : Type 0 where
  pub resource : Known s p.resource
  pub low : 1 ≤ p.month
  pub high : p.month ≤ b

-- the position of r for month m is in range
pub record PositionInRange (s : Standing) (r m : ℕ) : Type 0 where
  pub low : pos 0 ≤ℤ position s r m
  pub high : position s r m ≤ℤ pos 200000

pub record Limits (s : Standing) (rents : List Rent) (ps : List Posting) (r m : ℕ) : Type 0 where
  pub day : (d : ℕ) → day_penalty ps r m d ≤ℤ (annual s r m ÷ 10)
  pub month : month_penalty ps r m ≤ℤ ((pos (5 * price_of s r) *ℤ position s r m) ÷ 2)
  pub period : pos 0 <ℤ month_penalty ps r m → (penalties_since_june ps r m +ℤ deductions_since_june s rents r m) ≤ℤ annual s r m

-- b is the month in hand
pub record Sound (s : Standing) (b : ℕ) (rents : List Rent) (ps : List Posting) : Type 0 where
  pub year : b ≤ 12
  pub rows : (r m : ℕ) → Known s r → 1 ≤ m → m ≤ 12 → RowRight s r m
  pub trades : AllByRecursion (TradeSound s) s.trades
  pub postings : AllByRecursion (PostingSound s b) ps
  pub limits : (r m : ℕ) → Known s r → 1 ≤ m → m ≤ b → Limits s rents ps r m

-- ---- the limits of what was entered, on which products of it rest
abbrev pub ZoneBounded : Zone → Type 0
ZoneBounded z = (z.price ≤ 20000) × AllByRecursion (λ x. x ≤ 10000000000) z.rents

abbrev pub ResourceBounded : Resource → Type 0
ResourceBounded r = (r.cleared ≤ 200000) × (r.supplied ≤ r.cleared)

abbrev pub LoadBounded : Load → Type 0
LoadBounded k = unsigned_abs k.obligation ≤ 200000

abbrev pub TradeBounded : Trade → Type 0
TradeBounded (trade.Bilateral b) = (b.quantity ≤ 200000) × (b.price ≤ 20000)
TradeBounded (trade.Auction a) = (unsigned_abs a.quantity ≤ 200000) × (a.price ≤ 20000)

pub record Bounded (s : Standing) (rents : List Rent) : Type 0 where
  pub zones : AllByRecursion ZoneBounded s.zones
  pub resources : AllByRecursion ResourceBounded s.resources
  pub loads : AllByRecursion LoadBounded s.loads
  pub trades : AllByRecursion TradeBounded s.trades
  pub entered : AllByRecursion (λ x. x.amount ≤ 10000000000) rents

-- the month of a stage
abbrev pub StageMonth : Stage → ℕ → Type 0
StageMonth SetUp b = b ≡ 0
StageMonth Running b = 1 ≤ b
StageMonth Closed b = 1 ≤ b

pub record Kept (l : Ledger) : Type 0 where
  pub bounds : Bounded l.standing l.rents
  pub sound : Sound l.standing l.month l.rents l.postings
  pub stage : StageMonth l.stage l.month
