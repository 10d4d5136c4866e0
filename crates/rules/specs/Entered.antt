-- What the standing entries of every book keep, so that they can be entered again: each passes the tests of its entry, and
-- the trades, booked again from positions as cleared, make the positions that stand. Assumes nothing.
use Rattle.std.specs.Prelude.{◌≡◌, ℕ, ◌≤◌, false, [], map, length, replicate, Ok}
use Rattle.std.specs.List.{AllByRecursion}
use Rattle.rules.specs.declared.rows.Zone.{Zone}
use Rattle.rules.specs.declared.rows.Resource.{Resource}
use Rattle.rules.specs.declared.rows.Load.{Load}
use Rattle.rules.specs.Ledger.{Standing, Ledger}
use Rattle.rules.specs.Positions.{with_row}
use Rattle.rules.specs.Replays.{trade_entry, enter_all, set_up}
use Rattle.rules.specs.Rows.{unknown}
use Rattle.rules.specs.Tests.{year_test, peak_test, price_test, rents_test, cleared_test, supplied_test, obligation_test}

pub record ZoneEnters (z : Zone) : Type 0 where
  pub price : price_test z.price ≡ Ok tt
  pub rents : rents_test z.rents ≡ Ok tt

-- a resource of one of so many zones
pub record ResourceEnters (zones : ℕ) (r : Resource) : Type 0 where
  pub zone : unknown r.zone zones ≡ false
  pub cleared : cleared_test r.cleared ≡ Ok tt
  pub supplied : supplied_test r.cleared r.supplied ≡ Ok tt

-- a load of one of so many zones
pub record LoadEnters (zones : ℕ) (k : Load) : Type 0 where
  pub zone : unknown k.zone zones ≡ false
  pub obligation : obligation_test k.obligation ≡ Ok tt

-- the resource before any trade
abbrev pub as_cleared : Resource → Resource
as_cleared r = with_row r (replicate 12 r.cleared)

-- the book in set-up with these entries before any trade
abbrev pub untraded : (year peak : ℕ) → Standing → Ledger
untraded year peak s = set_up year peak (record { zones = s.zones; resources = map as_cleared s.resources; loads = s.loads; trades = [] })

pub record Entered (year peak : ℕ) (s : Standing) : Type 0 where
  pub year_passes : year_test year ≡ Ok tt
  pub peak_passes : peak_test peak ≡ Ok tt
  pub zones : AllByRecursion ZoneEnters s.zones
  pub zones_fit : length s.zones ≤ 8
  pub resources : AllByRecursion (ResourceEnters (length s.zones)) s.resources
  pub resources_fit : length s.resources ≤ 64
  pub loads : AllByRecursion (LoadEnters (length s.zones)) s.loads
  pub loads_fit : length s.loads ≤ 32
  pub trades : enter_all 0 (map trade_entry s.trades) (untraded year peak s) ≡ Ok (set_up year peak s)

-- every zone has its rents of the twelve months before June
abbrev pub TwelveRents : Standing → Type 0
TwelveRents s = AllByRecursion (λ (z : Zone). length z.rents ≡ 12) s.zones
