-- No call changes what a closed month answers, and a refused call changes nothing.
use Rattle.std.proofs.Common.{◌≡◌, ℕ, ◌+◌, true, [], ◌∷◌, length, nat_abs, Ok, refl, ◌∙◌, arith}
use Rattle.readings.specs.Table.{Table}
use Rattle.rules.specs.declared.refusal.Refusal.TheVariants.{TradesFull}
use Rattle.rules.specs.declared.rows.Auction.{Auction}
use Rattle.rules.specs.declared.rows.Bilateral.{Bilateral}
use Rattle.rules.specs.declared.rows.Stage.TheVariants.{SetUp, Running, Closed}
use Rattle.rules.specs.Calls.{Answered, event_of, bilateral_call, auction_call, event_call, rent_call, close_call, next_call}
use Rattle.rules.specs.Closed.{MonthStays, ClosedMonthsStay}
use Rattle.rules.specs.Ledger.{Ledger, closed}
use Rattle.rules.specs.Positions.{shedding, acquiring, auction_change}
use Rattle.rules.specs.Runs.{Call, zone, resource, load, bilateral, auction, begin, event, rent, close, next, step, after_all}
use Rattle.rules.specs.Tests.{ticket_test, period_test, room_test, price_test, zone_test, resource_test, parties_test, months_test, quantity_test, position_test, hours_test, overlap_test, events_test, cover_test, amount_test, entered_test, missing_test}
use Rattle.rules.proofs.Booked.{both_rows}
use Rattle.rules.proofs.Closed.{month_stays, begun, never_set_up, not_running_month, moves_on, rent_after, event_other, trade_later}
use Rattle.rules.proofs.Steps.{first_later, found_by, two_parties}
use Rattle.rules.proofs.Through.{through, through_in, stage_of}
use Rattle.rules.proofs.Trading.{one_row, not_running}

abbrev Stays : {A E : Type 0} → Ledger → ℕ → Answered A E → Type 0
Stays l m a = MonthStays l a.1 m

itself : (l : Ledger) (m : ℕ) → closed l m ≡ true → MonthStays l l m
itself l m c = record { still_closed = c; resource = λ r. refl; load = λ k. refl; zone = λ z. refl }

module _ (l : Ledger) (m : ℕ) (c : closed l m ≡ true) where
  same : {E : Type 0} → E → MonthStays l l m
  same e = itself l m c

  -- set-up is over
  over : {A : Type 0} (ticket : ℕ) (x : Unit {0}) → ticket_test l SetUp ticket ≡ Ok x → A
  over ticket x e = absurd (never_set_up l m c (stage_of l SetUp ticket x e))

  bilateral_stays : (t : Bilateral) → Stays l m (bilateral_call l t)
  bilateral_stays t =
      through_in (Stays l m) l (room_test 128 (length l.standing.trades) TradesFull) _ same (λ _ _.
      through_in (Stays l m) l (resource_test l.standing t.shedder) _ same (λ u e₁.
      through_in (Stays l m) l (resource_test l.standing t.acquirer) _ same (λ v e₂.
      through_in (Stays l m) l (parties_test t.shedder u.zone t.acquirer v.zone) _ same (λ x₃ e₃.
      through_in (Stays l m) l (months_test l.month t.first t.last) _ same (λ x₄ e₄.
      through_in (Stays l m) l (price_test t.price) _ same (λ _ _.
      through_in (Stays l m) l (quantity_test t.quantity) _ same (λ _ _.
      through_in (Stays l m) l (position_test (shedding t) u.row) _ same (λ less _.
      through_in (Stays l m) l (position_test (acquiring t) v.row) _ same (λ more _.
      month_stays l _ m c (trade_later l m c _ _ (both_rows l t.shedder t.acquirer u v less more (found_by l t.shedder u e₁) (found_by l t.acquirer v e₂) (two_parties t.shedder u.zone t.acquirer v.zone x₃ e₃).0)
      (not_running t.first t.last m l.month (first_later l t.first t.last x₄ e₄) (begun l m c))))))))))))

  auction_stays : (t : Auction) → Stays l m (auction_call l t)
  auction_stays t =
      through_in (Stays l m) l (room_test 128 (length l.standing.trades) TradesFull) _ same (λ _ _.
      through_in (Stays l m) l (resource_test l.standing t.resource) _ same (λ u e₁.
      through_in (Stays l m) l (months_test l.month t.first t.last) _ same (λ x₂ e₂.
      through_in (Stays l m) l (price_test t.price) _ same (λ _ _.
      through_in (Stays l m) l (quantity_test (nat_abs t.quantity)) _ same (λ _ _.
      through_in (Stays l m) l (position_test (auction_change t) u.row) _ same (λ row _.
      month_stays l _ m c (trade_later l m c _ _ (one_row l.standing.resources t.resource u row (found_by l t.resource u e₁))
      (not_running t.first t.last m l.month (first_later l t.first t.last x₂ e₂) (begun l m c)))))))))

  event_stays : (ticket z day hour hours : ℕ) (t : Table) → Stays l m (event_call l ticket z day hour hours t)
  event_stays ticket z day hour hours t =
      through (Stays l m) l (ticket_test l Running ticket) _ same (λ x e.
      through (Stays l m) l (zone_test l.standing z) _ same (λ _ _.
      through (Stays l m) l (hours_test l.year l.month day hour hours) _ same (λ _ _.
      through (Stays l m) l (overlap_test l.events z l.month day hour hours) _ same (λ _ _.
      through (Stays l m) l (events_test l.events z l.month hours) _ same (λ _ _.
      through (Stays l m) l (cover_test l.standing t hours) _ same (λ _ _.
      month_stays l _ m c (event_other l m c t (event_of l z day hour hours) (not_running_month l m c (stage_of l Running ticket x e)))))))))

  rent_stays : (ticket z amount : ℕ) → Stays l m (rent_call l ticket z amount)
  rent_stays ticket z amount =
      through (Stays l m) l (ticket_test l Running ticket) _ same (λ _ _.
      through (Stays l m) l (zone_test l.standing z) _ same (λ _ _.
      through (Stays l m) l (amount_test amount) _ same (λ _ _.
      through (Stays l m) l (entered_test l.rents l.month z) _ same (λ _ _.
      month_stays l _ m c (rent_after l m c (record { zone = z; month = l.month; amount = amount }) refl)))))

  close_stays : (ticket : ℕ) → Stays l m (close_call l ticket)
  close_stays ticket =
      through (Stays l m) l (ticket_test l Running ticket) _ same (λ _ _.
      through (Stays l m) l (missing_test l.standing l.rents l.month) _ same (λ _ _.
      month_stays l _ m c (moves_on l m c Closed l.month (begun l m c))))

  next_stays : (ticket : ℕ) → Stays l m (next_call l ticket)
  next_stays ticket =
      through (Stays l m) l (ticket_test l Closed ticket) _ same (λ _ _.
      through (Stays l m) l (period_test l) _ same (λ _ _.
      month_stays l _ m c (moves_on l m c Running (l.month + 1) (let h = begun l m c in omega arith))))

step_stays : (l : Ledger) (m : ℕ) → closed l m ≡ true → (c : Call) → MonthStays l (step l c) m
unfolding step
step_stays l m c (zone ticket price rents) = through (Stays l m) l (ticket_test l SetUp ticket) _ (same l m c) (over l m c ticket)
step_stays l m c (resource ticket z letter cleared supplied) = through (Stays l m) l (ticket_test l SetUp ticket) _ (same l m c) (over l m c ticket)
step_stays l m c (load ticket z obligation) = through (Stays l m) l (ticket_test l SetUp ticket) _ (same l m c) (over l m c ticket)
step_stays l m c (bilateral t) = bilateral_stays l m c t
step_stays l m c (auction t) = auction_stays l m c t
step_stays l m c (begin ticket) = through (Stays l m) l (ticket_test l SetUp ticket) _ (same l m c) (over l m c ticket)
step_stays l m c (event ticket z day hour hours t) = event_stays l m c ticket z day hour hours t
step_stays l m c (rent ticket z amount) = rent_stays l m c ticket z amount
step_stays l m c (close ticket) = close_stays l m c ticket
step_stays l m c (next ticket) = next_stays l m c ticket

both : (l₁ l₂ l₃ : Ledger) (m : ℕ) → MonthStays l₁ l₂ m → MonthStays l₂ l₃ m → MonthStays l₁ l₃ m
both l₁ l₂ l₃ m a b = record { still_closed = b.still_closed; resource = λ r. b.resource r ∙ a.resource r; load = λ k. b.load k ∙ a.load k; zone = λ z. b.zone z ∙ a.zone z }

pub closed_months_stay_lem : ClosedMonthsStay
unfolding after_all
closed_months_stay_lem l m [] c = itself l m c
closed_months_stay_lem l m (x ∷ xs) c = let s = step_stays l m c x in both l (step l x) (after_all (step l x) xs) m s (closed_months_stay_lem (step l x) m xs s.still_closed)
