-- What is entered into the standing entries, and the trades that are booked there: each with its answer, the entry's
-- number. Assumes nothing.
use Rattle.std.specs.Prelude.{ℕ, ◌+◌, ◌-◌, List, length, replicate, ℤ, Result, slice_set, unsigned_abs}
use Rattle.rules.specs.declared.refusal.Refusal.{Refusal}
use Rattle.rules.specs.declared.refusal.Refusal.TheVariants.{ZonesFull, ResourcesFull, LoadsFull, TradesFull}
use Rattle.rules.specs.declared.rows.Auction.{Auction}
use Rattle.rules.specs.declared.rows.Bilateral.{Bilateral}
use Rattle.rules.specs.declared.rows.Trade.TheVariants as trade
use Rattle.rules.specs.Chains.{after, accept}
use Rattle.rules.specs.Ledger.{Standing, more_zone, more_resource, more_load, more_trade}
use Rattle.rules.specs.Positions.{shedding, acquiring, auction_change, with_row}
use Rattle.rules.specs.Tests.{room_test, price_test, rents_test, zone_test, class_test, cleared_test, supplied_test, obligation_test, resource_test, parties_test, months_test, quantity_test, position_test}

-- A zone with its price and its twelve rents before June.
abbrev pub enter_zone : Standing → ℕ → List ℕ → Result ℕ Refusal × Standing
enter_zone s price rents =
    after s (room_test 8 (length s.zones) ZonesFull) (λ _.
    after s (price_test price) (λ _.
    after s (rents_test rents) (λ _.
    accept (length s.zones + 1) (more_zone s (record { price = price; rents = rents })))))

-- A resource by the letter of its class, whose position in each month is what it cleared.
abbrev pub enter_resource : Standing → ℕ → ℕ → ℕ → ℕ → Result ℕ Refusal × Standing
enter_resource s zone letter cleared supplied =
    after s (zone_test s zone) (λ _.
    after s (room_test 64 (length s.resources) ResourcesFull) (λ _.
    after s (class_test letter) (λ class.
    after s (cleared_test cleared) (λ _.
    after s (supplied_test cleared supplied) (λ _.
    accept (length s.resources + 1)
    (more_resource s (record { zone = zone; class = class; cleared = cleared; supplied = supplied; row = replicate 12 cleared })))))))

-- A load with one obligation for all months.
abbrev pub enter_load : Standing → ℕ → ℤ → Result ℕ Refusal × Standing
enter_load s zone obligation =
    after s (zone_test s zone) (λ _.
    after s (room_test 32 (length s.loads) LoadsFull) (λ _.
    after s (obligation_test obligation) (λ _.
    accept (length s.loads + 1) (more_load s (record { zone = zone; obligation = obligation })))))

-- The shedder's position goes over to an acquirer of the same zone, once the book has come to `month`.
abbrev pub book_bilateral : Standing → ℕ → Bilateral → Result ℕ Refusal × Standing
book_bilateral s month b =
    after s (room_test 128 (length s.trades) TradesFull) (λ _.
    after s (resource_test s b.shedder) (λ from.
    after s (resource_test s b.acquirer) (λ to.
    after s (parties_test b.shedder from.zone b.acquirer to.zone) (λ _.
    after s (months_test month b.first b.last) (λ _.
    after s (price_test b.price) (λ _.
    after s (quantity_test b.quantity) (λ _.
    after s (position_test (shedding b) from.row) (λ less.
    after s (position_test (acquiring b) to.row) (λ more.
    accept (length s.trades + 1)
    (more_trade s
    (slice_set (slice_set s.resources (b.shedder - 1) (with_row from less)) (b.acquirer - 1) (with_row to more))
    (trade.Bilateral b)))))))))))

-- A resource acquires or sheds in an auction.
abbrev pub book_auction : Standing → ℕ → Auction → Result ℕ Refusal × Standing
book_auction s month a =
    after s (room_test 128 (length s.trades) TradesFull) (λ _.
    after s (resource_test s a.resource) (λ r.
    after s (months_test month a.first a.last) (λ _.
    after s (price_test a.price) (λ _.
    after s (quantity_test (unsigned_abs a.quantity)) (λ _.
    after s (position_test (auction_change a) r.row) (λ row.
    accept (length s.trades + 1)
    (more_trade s (slice_set s.resources (a.resource - 1) (with_row r row)) (trade.Auction a))))))))
