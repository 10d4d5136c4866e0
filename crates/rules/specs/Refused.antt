-- A refused call leaves the ledger as it was. Assumes nothing.
use Rattle.std.specs.Prelude.{◌≡◌, ℕ, List, ℤ, OnErr}
use Rattle.readings.specs.Table.{Table}
use Rattle.rules.specs.declared.rows.Auction.{Auction}
use Rattle.rules.specs.declared.rows.Bilateral.{Bilateral}
use Rattle.rules.specs.Calls.{Answered, open_call, zone_call, resource_call, load_call, bilateral_call, auction_call, begin_call, event_call, rent_call, close_call, next_call}
use Rattle.rules.specs.Ledger.{Ledger}

abbrev pub Stays : {A E : Type 0} → Ledger → Answered A E → Type 0
Stays l a = OnErr a.0 (a.1 ≡ l)

pub record RefusedChangesNothing (l : Ledger) : Type 0 where
  pub opening : (year peak : ℕ) → Stays l (open_call l year peak)
  pub zone : (ticket price : ℕ) (rents : List ℕ) → Stays l (zone_call l ticket price rents)
  pub resource : (ticket z letter cleared supplied : ℕ) → Stays l (resource_call l ticket z letter cleared supplied)
  pub load : (ticket z : ℕ) (obligation : ℤ) → Stays l (load_call l ticket z obligation)
  pub bilateral : (b : Bilateral) → Stays l (bilateral_call l b)
  pub auction : (a : Auction) → Stays l (auction_call l a)
  pub begin : (ticket : ℕ) → Stays l (begin_call l ticket)
  pub event : (ticket z day hour hours : ℕ) (t : Table) → Stays l (event_call l ticket z day hour hours t)
  pub rent : (ticket z amount : ℕ) → Stays l (rent_call l ticket z amount)
  pub close : (ticket : ℕ) → Stays l (close_call l ticket)
  pub next : (ticket : ℕ) → Stays l (next_call l ticket)
