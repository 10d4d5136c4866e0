-- What stands in a book: entries, and no result but the postings of events. Assumes nothing.
use Rattle.std.specs.Prelude.{ℕ, zero, suc, ◌-◌, Bool, cond, ◌&&◌, List, [], ◌∷◌, ◌++◌, length, ◌==◌, nat_le}
use Rattle.rules.specs.declared.rows.Zone.{Zone}
use Rattle.rules.specs.declared.rows.Resource.{Resource}
use Rattle.rules.specs.declared.rows.Load.{Load}
use Rattle.rules.specs.declared.rows.Trade.{Trade}
use Rattle.rules.specs.declared.rows.Rent.{Rent}
use Rattle.rules.specs.declared.rows.Event.{Event}
use Rattle.rules.specs.declared.rows.Posting.{Posting}
use Rattle.rules.specs.declared.rows.Stage.{Stage}
use Rattle.rules.specs.declared.rows.Stage.TheVariants.{SetUp, Running, Closed}
use Rattle.rules.specs.Rows.{row_of, no_zone, no_resource, no_load}

-- the standing entries
pub record Standing : Type 0 where
  pub zones : List Zone
  pub resources : List Resource
  pub loads : List Load
  pub trades : List Trade

-- one period: month 0 is set-up, and the rents, events and postings are those of the months so far
pub record Ledger : Type 0 where
  pub year : ℕ
  pub peak : ℕ
  pub month : ℕ
  pub stage : Stage
  pub standing : Standing
  pub rents : List Rent
  pub events : List Event
  pub postings : List Posting

-- ---- what stands under a number
unfoldable pub resource_of : Standing → ℕ → Resource
resource_of s r = row_of no_resource s.resources r

unfoldable pub load_of : Standing → ℕ → Load
load_of s k = row_of no_load s.loads k

unfoldable pub zone_of : Standing → ℕ → ℕ
zone_of s r = (resource_of s r).zone

unfoldable pub price_of : Standing → ℕ → ℕ
price_of s r = (row_of no_zone s.zones (zone_of s r)).price

-- the numbers of those of the resources 1 to n that are of a zone, and of all
unfoldable pub members_to : ℕ → Standing → ℕ → List ℕ
members_to zero s z = []
members_to (suc n) s z = members_to n s z ++ cond (zone_of s (suc n) == z) (suc n ∷ []) []

unfoldable pub members : Standing → ℕ → List ℕ
members s z = members_to (length s.resources) s z

-- ---- the months that are closed
abbrev pub closed_months : Stage → ℕ → ℕ
closed_months SetUp month = 0
closed_months Running month = month - 1
closed_months Closed month = month

unfoldable pub closed : Ledger → ℕ → Bool
closed l m = nat_le 1 m && nat_le m (closed_months l.stage l.month)

-- ---- what calls make of a ledger
abbrev pub no_entries : Standing
no_entries = record { zones = []; resources = []; loads = []; trades = [] }

-- a period with no entries yet
abbrev pub opened : ℕ → ℕ → Ledger
opened year peak = record { year = year; peak = peak; month = 0; stage = SetUp; standing = no_entries; rents = []; events = []; postings = [] }

abbrev pub with_standing : Ledger → Standing → Ledger
with_standing l s = record { year = l.year; peak = l.peak; month = l.month; stage = l.stage; standing = s; rents = l.rents; events = l.events; postings = l.postings }

-- one entry more among the standing ones
abbrev pub more_zone : Standing → Zone → Standing
more_zone s z = record { zones = s.zones ++ z ∷ []; resources = s.resources; loads = s.loads; trades = s.trades }

abbrev pub more_resource : Standing → Resource → Standing
more_resource s r = record { zones = s.zones; resources = s.resources ++ r ∷ []; loads = s.loads; trades = s.trades }

abbrev pub more_load : Standing → Load → Standing
more_load s k = record { zones = s.zones; resources = s.resources; loads = s.loads ++ k ∷ []; trades = s.trades }

-- a trade is booked, and the resources' rows are as it leaves them
abbrev pub more_trade : Standing → List Resource → Trade → Standing
more_trade s resources t = record { zones = s.zones; resources = resources; loads = s.loads; trades = s.trades ++ t ∷ [] }

abbrev pub at_stage : Ledger → Stage → ℕ → Ledger
at_stage l stage month = record { year = l.year; peak = l.peak; month = month; stage = stage; standing = l.standing; rents = l.rents; events = l.events; postings = l.postings }

abbrev pub with_rent : Ledger → Rent → Ledger
with_rent l r = record { year = l.year; peak = l.peak; month = l.month; stage = l.stage; standing = l.standing; rents = l.rents ++ r ∷ []; events = l.events; postings = l.postings }

abbrev pub with_event : Ledger → Event → List Posting → Ledger
with_event l e added = record { year = l.year; peak = l.peak; month = l.month; stage = l.stage; standing = l.standing; rents = l.rents; events = l.events ++ e ∷ []; postings = l.postings ++ added }
