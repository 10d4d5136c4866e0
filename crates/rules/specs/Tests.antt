-- The tests that refuse, each with its refusal. A test takes the parts of the ledger that it reads. Assumes nothing.
use Rattle.std.specs.Prelude.{ℕ, zero, suc, ◌+◌, ◌*◌, min, max, Bool, true, false, cond, not, ◌&&◌, ◌||◌, List, [], ◌∷◌, length, ℤ, pos, negsuc, Ok, Err, Result, ◌==◌, int_lt, nat_le, nat_lt}
use Rattle.std.specs.List.{list_any}
use Rattle.std.specs.Option.{ok_or}
use Rattle.readings.specs.Table.{Table}
use Rattle.rules.specs.declared.class.Class.{Class}
use Rattle.rules.specs.declared.refusal.Refusal.{Refusal}
use Rattle.rules.specs.declared.refusal.Refusal.TheVariants.{Year, Peak, Ticket, Price, PriorRent, ZoneUnknown, ClassUnknown, Cleared, SelfSupply, Obligation, PeriodOver, ResourceUnknown, Parties, Months, Quantity, Position, EventHours, EventOverlap, EventsFull, NotCovered, RentAmount, RentEntered, RentMissing, NotClosed, LoadUnknown}
use Rattle.rules.specs.declared.rows.Resource.{Resource}
use Rattle.rules.specs.declared.rows.Load.{Load}
use Rattle.rules.specs.declared.rows.Rent.{Rent}
use Rattle.rules.specs.declared.rows.Event.{Event}
use Rattle.rules.specs.declared.rows.Change.{Change}
use Rattle.rules.specs.declared.rows.Stage.{Stage}
use Rattle.rules.specs.declared.rows.Stage.TheVariants.{SetUp, Running, Closed}
use Rattle.rules.specs.Ledger.{Standing, Ledger, closed}
use Rattle.rules.specs.Positions.{changed_row}
use Rattle.rules.specs.Calendar.{days, start}
use Rattle.rules.specs.Classes.{class_of}
use Rattle.rules.specs.Rows.{unknown, numbered}

abbrev pub Test : Type 0
Test = Result (Unit {0}) Refusal

-- a test, which refuses so where the fault is there
abbrev pub barred : Bool → Refusal → Test
barred fault refusal = cond fault (Err refusal) (Ok tt)

abbrev pub some : {A : Type 0} → (A → Bool) → List A → Bool
some p [] = false
some p (x ∷ xs) = p x || some p xs

-- one of the values is above the limit
abbrev pub any_above : ℕ → List ℕ → Bool
any_above limit xs = list_any (nat_lt limit) xs

-- ---- opening and tickets
abbrev pub year_test : ℕ → Test
year_test year = barred (nat_lt year 2010 || nat_lt 2098 year) Year

abbrev pub peak_test : ℕ → Test
peak_test peak = barred (nat_lt peak 1 || nat_lt 100000 peak) Peak

abbrev pub same_stage : Stage → Stage → Bool
same_stage SetUp SetUp = true
same_stage SetUp Running = false
same_stage SetUp Closed = false
same_stage Running SetUp = false
same_stage Running Running = true
same_stage Running Closed = false
same_stage Closed SetUp = false
same_stage Closed Running = false
same_stage Closed Closed = true

-- the month and the state of a ticket are the book's
abbrev pub ticket_test : Ledger → Stage → ℕ → Test
ticket_test l stage month = barred (not (same_stage l.stage stage && l.month == month)) Ticket

abbrev pub period_test : Ledger → Test
period_test l = barred (nat_le 12 l.month) PeriodOver

-- ---- entries
-- there is room for one more than stand
abbrev pub room_test : ℕ → ℕ → Refusal → Test
room_test limit stand refusal = barred (nat_le limit stand) refusal

abbrev pub price_test : ℕ → Test
price_test price = barred (nat_lt 20000 price) Price

abbrev pub rents_test : List ℕ → Test
rents_test rents = barred (any_above 10000000000 rents) PriorRent

abbrev pub zone_test : Standing → ℕ → Test
zone_test s zone = barred (unknown zone (length s.zones)) ZoneUnknown

abbrev pub class_test : ℕ → Result Class Refusal
class_test letter = ok_or (class_of letter) ClassUnknown

abbrev pub cleared_test : ℕ → Test
cleared_test cleared = barred (nat_lt 200000 cleared) Cleared

abbrev pub supplied_test : ℕ → ℕ → Test
supplied_test cleared supplied = barred (nat_lt cleared supplied) SelfSupply

abbrev pub obligation_test : ℤ → Test
obligation_test obligation = barred (int_lt obligation (negsuc 199999) || int_lt (pos 200000) obligation) Obligation

-- ---- trades
abbrev pub resource_test : Standing → ℕ → Result Resource Refusal
resource_test s number = ok_or (numbered s.resources number) ResourceUnknown

-- the two are not one, and of one zone
abbrev pub parties_test : ℕ → ℕ → ℕ → ℕ → Test
parties_test shedder zone acquirer other = barred (shedder == acquirer || not (zone == other)) Parties

-- the months first to last are of the period, in order, and none of them has begun; the book has come to `month`
abbrev pub months_test : ℕ → ℕ → ℕ → Test
months_test month first last = barred (nat_lt first 1 || (nat_lt last first || (nat_lt 12 last || nat_le first month))) Months

abbrev pub quantity_test : ℕ → Test
quantity_test quantity = barred (quantity == 0 || nat_lt 200000 quantity) Quantity

-- every month's position stays within 0 to 200,000
abbrev pub position_test : Change → List ℕ → Result (List ℕ) Refusal
position_test change row = ok_or (changed_row change row) Position

-- ---- events
-- a day of the month, an hour of 0 to 23, a length of 1 to 24, and an end within the month
abbrev pub hours_test : ℕ → ℕ → ℕ → ℕ → ℕ → Test
hours_test year month day hour hours =
    barred (nat_lt day 1 || (nat_lt (days year month) day || (nat_lt 23 hour || (nat_lt hours 1 || (nat_lt 24 hours ||
    nat_lt (days year month * 24) (start day hour + hours)))))) EventHours

abbrev pub of_month : ℕ → ℕ → Event → Bool
of_month zone month e = e.zone == zone && e.month == month

abbrev pub shares_hour : ℕ → ℕ → Event → Bool
shares_hour first hours e = nat_lt (max first (start e.day e.hour)) (min (first + hours) (start e.day e.hour + e.hours))

abbrev pub overlap_test : List Event → ℕ → ℕ → ℕ → ℕ → ℕ → Test
overlap_test events zone month day hour hours = barred (some (λ e. of_month zone month e && shares_hour (start day hour) hours e) events) EventOverlap

abbrev pub events_in : ℕ → ℕ → List Event → ℕ
events_in zone month [] = 0
events_in zone month (e ∷ es) = cond (of_month zone month e) 1 0 + events_in zone month es

abbrev pub hours_in : ℕ → ℕ → List Event → ℕ
hours_in zone month [] = 0
hours_in zone month (e ∷ es) = cond (of_month zone month e) e.hours 0 + hours_in zone month es

-- at most 16 events and 48 hours of a zone in a month
abbrev pub events_test : List Event → ℕ → ℕ → ℕ → Test
events_test events zone month hours = barred (nat_le 16 (events_in zone month events) || nat_lt 48 (hours_in zone month events + hours)) EventsFull

abbrev pub cover_test : Standing → Table → ℕ → Test
cover_test s t hours = barred (not (t.covers (length s.resources) hours)) NotCovered

-- ---- rents
abbrev pub amount_test : ℕ → Test
amount_test amount = barred (nat_lt 10000000000 amount) RentAmount

-- the zone has its rent of the month
abbrev pub has_rent : List Rent → ℕ → ℕ → Bool
has_rent rents month zone = some (λ x. (x.zone == zone) && x.month == month) rents

abbrev pub entered_test : List Rent → ℕ → ℕ → Test
entered_test rents month zone = barred (has_rent rents month zone) RentEntered

-- one of the zones 1 to n lacks its rent
abbrev pub lacks_rent : ℕ → List Rent → ℕ → Bool
lacks_rent zero rents month = false
lacks_rent (suc n) rents month = lacks_rent n rents month || not (has_rent rents month (suc n))

abbrev pub missing_test : Standing → List Rent → ℕ → Test
missing_test s rents month = barred (lacks_rent (length s.zones) rents month) RentMissing

-- ---- questions
-- a month of the period
abbrev pub month_test : ℕ → Test
month_test month = barred (nat_lt month 1 || nat_lt 12 month) Months

abbrev pub closed_test : Ledger → ℕ → Test
closed_test l month = barred (not (closed l month)) NotClosed

abbrev pub load_test : Standing → ℕ → Result Load Refusal
load_test s number = ok_or (numbered s.loads number) LoadUnknown
