-- A refused call leaves the ledger as it was.
use Rattle.std.proofs.Common.{length, nat_abs, Ok, Err, Result, refl}
use Rattle.rules.specs.declared.refusal.Refusal.TheVariants.{ZonesFull, ResourcesFull, LoadsFull, TradesFull}
use Rattle.rules.specs.declared.rows.Stage.TheVariants.{SetUp, Running, Closed}
use Rattle.rules.specs.Calls.{Answered, into}
use Rattle.rules.specs.Chains.{after}
use Rattle.rules.specs.Ledger.{Standing, Ledger}
use Rattle.rules.specs.Positions.{shedding, acquiring, auction_change}
use Rattle.rules.specs.Refused.{Stays, RefusedChangesNothing}
use Rattle.rules.specs.Tests.{year_test, peak_test, ticket_test, period_test, room_test, price_test, rents_test, zone_test, class_test, cleared_test, supplied_test, obligation_test, resource_test, parties_test, months_test, quantity_test, position_test, hours_test, overlap_test, events_test, cover_test, amount_test, entered_test, missing_test}

after_stays : {A B E : Type 0} (l : Ledger) (t : Result B E) (rest : B → Answered A E) → ((x : B) → Stays l (rest x)) → Stays l (after l t rest)
after_stays l (Err e) rest h = refl
after_stays l (Ok x) rest h = h x

stays_in : {A B E : Type 0} (l : Ledger) (t : Result B E) (rest : B → Result A E × Standing) → ((x : B) → Stays l (into l (rest x))) → Stays l (into l (after l.standing t rest))
stays_in l (Err e) rest h = refl
stays_in l (Ok x) rest h = h x

pub changes_nothing : (l : Ledger) → RefusedChangesNothing l
changes_nothing l = record {
  opening = λ y p. after_stays l (year_test y) _ (λ _. after_stays l (peak_test p) _ (λ _. tt));
  zone = λ t p rs.
      after_stays l (ticket_test l SetUp t) _ (λ _. stays_in l (room_test 8 (length l.standing.zones) ZonesFull) _ (λ _. stays_in l (price_test p) _ (λ _.
      stays_in l (rents_test rs) _ (λ _. tt))));
  resource = λ t z b q s.
      after_stays l (ticket_test l SetUp t) _ (λ _. stays_in l (zone_test l.standing z) _ (λ _. stays_in l (room_test 64 (length l.standing.resources) ResourcesFull) _ (λ _.
      stays_in l (class_test b) _ (λ _. stays_in l (cleared_test q) _ (λ _. stays_in l (supplied_test q s) _ (λ _. tt))))));
  load = λ t z o.
      after_stays l (ticket_test l SetUp t) _ (λ _. stays_in l (zone_test l.standing z) _ (λ _. stays_in l (room_test 32 (length l.standing.loads) LoadsFull) _ (λ _.
      stays_in l (obligation_test o) _ (λ _. tt))));
  bilateral = λ t.
      stays_in l (room_test 128 (length l.standing.trades) TradesFull) _ (λ _. stays_in l (resource_test l.standing t.shedder) _ (λ s. stays_in l (resource_test l.standing t.acquirer) _ (λ a.
      stays_in l (parties_test t.shedder s.zone t.acquirer a.zone) _ (λ _. stays_in l (months_test l.month t.first t.last) _ (λ _. stays_in l (price_test t.price) _ (λ _.
      stays_in l (quantity_test t.quantity) _ (λ _. stays_in l (position_test (shedding t) s.row) _ (λ _. stays_in l (position_test (acquiring t) a.row) _ (λ _. tt)))))))));
  auction = λ t.
      stays_in l (room_test 128 (length l.standing.trades) TradesFull) _ (λ _. stays_in l (resource_test l.standing t.resource) _ (λ r. stays_in l (months_test l.month t.first t.last) _ (λ _.
      stays_in l (price_test t.price) _ (λ _. stays_in l (quantity_test (nat_abs t.quantity)) _ (λ _. stays_in l (position_test (auction_change t) r.row) _ (λ _. tt))))));
  begin = λ t. after_stays l (ticket_test l SetUp t) _ (λ _. tt);
  event = λ t z d h n source.
      after_stays l (ticket_test l Running t) _ (λ _. after_stays l (zone_test l.standing z) _ (λ _. after_stays l (hours_test l.year l.month d h n) _ (λ _.
      after_stays l (overlap_test l.events z l.month d h n) _ (λ _. after_stays l (events_test l.events z l.month n) _ (λ _. after_stays l (cover_test l.standing source n) _ (λ _. tt))))));
  rent = λ t z a.
      after_stays l (ticket_test l Running t) _ (λ _. after_stays l (zone_test l.standing z) _ (λ _. after_stays l (amount_test a) _ (λ _. after_stays l (entered_test l.rents l.month z) _ (λ _. tt))));
  close = λ t. after_stays l (ticket_test l Running t) _ (λ _. after_stays l (missing_test l.standing l.rents l.month) _ (λ _. tt));
  next = λ t. after_stays l (ticket_test l Closed t) _ (λ _. after_stays l (period_test l) _ (λ _. tt));
}
