-- The standing entries as they were entered, and the set-up that a fresh book makes of them again: zones first, then
-- resources, loads and trades, each in its order. Assumes nothing.
use Rattle.std.specs.Prelude.{◌≡◌, ℕ, List, [], ◌∷◌, ◌++◌, map, Ok, Err, Result}
use Rattle.rules.specs.declared.entry.Entry.{Entry}
use Rattle.rules.specs.declared.entry.Entry.TheVariants as entry
use Rattle.rules.specs.declared.refusal.Refusal.{Refusal}
use Rattle.rules.specs.declared.rows.Zone.{Zone}
use Rattle.rules.specs.declared.rows.Resource.{Resource}
use Rattle.rules.specs.declared.rows.Load.{Load}
use Rattle.rules.specs.declared.rows.Trade.{Trade}
use Rattle.rules.specs.declared.rows.Trade.TheVariants as trade
use Rattle.rules.specs.Calls.{Answered, open_call, zone_call, resource_call, load_call, bilateral_call, auction_call}
use Rattle.rules.specs.Chains.{then}
use Rattle.rules.specs.Classes.{letter_of}
use Rattle.rules.specs.Ledger.{Standing, Ledger, opened, with_standing}
use Rattle.rules.specs.Runs as call
use Rattle.rules.specs.Runs.{Call, after_all}
use Rattle.rules.specs.Tests.{year_test, peak_test}

-- ---- what stands, as it was entered
abbrev pub zone_entry : Zone → Entry
zone_entry z = entry.Zone z

abbrev pub resource_entry : Resource → Entry
resource_entry r = entry.Resource (record { zone = r.zone; letter = letter_of r.class; cleared = r.cleared; supplied = r.supplied })

abbrev pub load_entry : Load → Entry
load_entry k = entry.Load k

abbrev pub trade_entry : Trade → Entry
trade_entry t = entry.Trade t

-- ---- what a book makes of entries
-- the ledger that a call leaves, or its refusal
abbrev pub taken : {A : Type 0} → Answered A Refusal → Result Ledger Refusal
taken (Ok answer, l) = Ok l
taken (Err refusal, l) = Err refusal

-- the call of an entry, with a set-up ticket of that month
unfoldable pub enter : ℕ → Entry → Ledger → Result Ledger Refusal
enter ticket (entry.Zone z) l = taken (zone_call l ticket z.price z.rents)
enter ticket (entry.Resource r) l = taken (resource_call l ticket r.zone r.letter r.cleared r.supplied)
enter ticket (entry.Load k) l = taken (load_call l ticket k.zone k.obligation)
enter ticket (entry.Trade (trade.Bilateral b)) l = taken (bilateral_call l b)
enter ticket (entry.Trade (trade.Auction a)) l = taken (auction_call l a)

unfoldable pub enter_all : ℕ → List Entry → Ledger → Result Ledger Refusal
enter_all ticket [] l = Ok l
enter_all ticket (e ∷ es) l = then (enter ticket e l) (enter_all ticket es)

-- the empty book
abbrev pub empty : Ledger
empty = opened 2010 1

-- the ledger that the opening and the entries of zones, resources, loads and trades make of the empty book
unfoldable pub made_of : (year peak : ℕ) → (zones resources loads trades : List Entry) → Result Ledger Refusal
made_of year peak zones resources loads trades =
    then (taken (open_call empty year peak)) (λ l.
    then (enter_all 0 zones l) (λ z.
    then (enter_all 0 resources z) (λ r.
    then (enter_all 0 loads r) (enter_all 0 trades))))

-- what the standing entries of a ledger make
abbrev pub remade : Ledger → Result Ledger Refusal
remade l = made_of l.year l.peak (map zone_entry l.standing.zones) (map resource_entry l.standing.resources) (map load_entry l.standing.loads) (map trade_entry l.standing.trades)

-- a book in set-up with these entries
abbrev pub set_up : (year peak : ℕ) → Standing → Ledger
set_up year peak s = with_standing (opened year peak) s

-- the set-up with the same entries
abbrev pub fresh : Ledger → Ledger
fresh l = set_up l.year l.peak l.standing

-- ---- the same as a list of calls on the opened book
abbrev pub call_of : Entry → Call
call_of (entry.Zone z) = call.zone 0 z.price z.rents
call_of (entry.Resource r) = call.resource 0 r.zone r.letter r.cleared r.supplied
call_of (entry.Load k) = call.load 0 k.zone k.obligation
call_of (entry.Trade (trade.Bilateral b)) = call.bilateral b
call_of (entry.Trade (trade.Auction a)) = call.auction a

abbrev pub calls_of : Standing → List Call
calls_of s = map call_of (map zone_entry s.zones) ++ (map call_of (map resource_entry s.resources) ++ (map call_of (map load_entry s.loads) ++ map call_of (map trade_entry s.trades)))

-- The ledger is what the calls of its own entries make of the opened book.
abbrev pub MadeByCalls : Ledger → Type 0
MadeByCalls l = after_all (opened l.year l.peak) (calls_of l.standing) ≡ l

-- The standing entries of every book that calls can make, entered again, are all accepted and make the same entries.
abbrev pub EntriesReplay : Type 0
EntriesReplay =
    (year peak : ℕ) (calls : List Call) → year_test year ≡ Ok tt → peak_test peak ≡ Ok tt →
    remade (after_all (opened year peak) calls) ≡ Ok (fresh (after_all (opened year peak) calls))
