-- What has to hold of standing entries, so that the amounts of a month are computed from their rows and none overflows.
-- Every book keeps it. Assumes nothing.
use Rattle.std.specs.Prelude.{ℕ, ◌≤◌, List}
use Rattle.std.specs.List.{AllByRecursion}
use Rattle.rules.specs.declared.rows.Rent.{Rent}
use Rattle.rules.specs.Kept.{ZoneBounded, ResourceBounded, TradeBounded}
use Rattle.rules.specs.declared.rows.Zone.{Zone}
use Rattle.rules.specs.Ledger.{Standing, zone_of}
use Rattle.rules.specs.Rows.{row_of, no_zone}
use Rattle.rules.specs.Sums.{Known, RowRight}

pub record Settles (s : Standing) : Type 0 where
  pub zones : AllByRecursion ZoneBounded s.zones
  pub resources : AllByRecursion ResourceBounded s.resources
  pub trades : AllByRecursion TradeBounded s.trades
  pub rows : (r m : ℕ) → Known s r → 1 ≤ m → m ≤ 12 → RowRight s r m

-- no rent is above its limit
abbrev pub AmountsBounded : List Rent → Type 0
AmountsBounded rents = ∥ AllByRecursion (λ x. x.amount ≤ 10000000000) rents ∥₁

-- the zone of a resource; a number that is no zone's stands for a zone of nothing
abbrev pub zone_row : Standing → ℕ → Zone
zone_row s r = row_of no_zone s.zones (zone_of s r)
