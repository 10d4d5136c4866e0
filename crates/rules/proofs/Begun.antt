-- No call moves the position, the payment or the deduction of a month that has begun.
use Rattle.std.proofs.Common.{◌≡◌, ℕ, false, List, [], ◌∷◌, length, nat_abs, Ok, refl, ◌∙◌, arith}
use Rattle.readings.specs.Table.{Table}
use Rattle.rules.specs.declared.refusal.Refusal.TheVariants.{TradesFull}
use Rattle.rules.specs.declared.rows.Auction.{Auction}
use Rattle.rules.specs.declared.rows.Bilateral.{Bilateral}
use Rattle.rules.specs.declared.rows.Resource.{Resource}
use Rattle.rules.specs.declared.rows.Stage.{Stage}
use Rattle.rules.specs.declared.rows.Stage.TheVariants.{SetUp, Running, Closed}
use Rattle.rules.specs.declared.rows.Trade.{Trade}
use Rattle.rules.specs.Begun.{Begun, Fixed, BegunMonthsFixed}
use Rattle.rules.specs.Calls.{Answered, bilateral_call, auction_call, event_call, rent_call, close_call, next_call}
use Rattle.rules.specs.Ledger.{Ledger, with_standing, more_trade}
use Rattle.rules.specs.Positions.{shedding, acquiring, auction_change}
use Rattle.rules.specs.Runs.{Call, zone, resource, load, bilateral, auction, begin, event, rent, close, next, step, after_all}
use Rattle.rules.specs.Tests.{ticket_test, period_test, room_test, price_test, zone_test, resource_test, parties_test, months_test, quantity_test, position_test, hours_test, overlap_test, events_test, cover_test, amount_test, entered_test, missing_test}
use Rattle.rules.proofs.Booked.{both_rows}
use Rattle.rules.proofs.Closed.{runs_at, held_stays, paid_stays, deducted_stays}
use Rattle.rules.proofs.Entering.{rent_later}
use Rattle.rules.proofs.Steps.{first_later, found_by, two_parties}
use Rattle.rules.proofs.Through.{through, through_in, stage_of}
use Rattle.rules.proofs.Trading.{SameButRows, one_row, not_running}

abbrev Then : {A E : Type 0} → Ledger → ℕ → Answered A E → Type 0
Then l m a = Fixed l a.1 m

never_running : (st : Stage) → st ≡ Running → st ≡ SetUp → ⊥
never_running st e f = let z : ◌≡◌ {A = ℕ} 0 1 = cc in omega arith

running : Running ≡ SetUp → ⊥
running e = never_running Running refl e

ended : Closed ≡ SetUp → ⊥
ended e = let z : ◌≡◌ {A = ℕ} 0 1 = cc in omega arith

itself : (l : Ledger) (m : ℕ) → Begun l m → Fixed l l m
itself l m b = record { still = b; held = λ r. refl; paid = λ r. refl; deducted = λ r. refl }

module _ (l : Ledger) (m : ℕ) (b : Begun l m) where
  same : {E : Type 0} → E → Fixed l l m
  same e = itself l m b

  -- set-up is over
  over : {A : Type 0} (ticket : ℕ) (x : Unit {0}) → ticket_test l SetUp ticket ≡ Ok x → A
  over ticket x e = absurd (b.set_up (stage_of l SetUp ticket x e))

  trade_fixed : (rs : List Resource) (x : Trade) → SameButRows l.standing.resources rs → runs_at x m ≡ false → Fixed l (with_standing l (more_trade l.standing rs x)) m
  trade_fixed rs x e off = record {
    still = record { low = b.low; high = b.high; set_up = b.set_up };
    held = held_stays l.standing rs x e m off;
    paid = paid_stays l.standing rs x e m off;
    deducted = deducted_stays l.standing rs x e m off l.rents;
  }

  bilateral_fixed : (t : Bilateral) → Then l m (bilateral_call l t)
  bilateral_fixed t =
      through_in (Then l m) l (room_test 128 (length l.standing.trades) TradesFull) _ same (λ _ _.
      through_in (Then l m) l (resource_test l.standing t.shedder) _ same (λ u e₁.
      through_in (Then l m) l (resource_test l.standing t.acquirer) _ same (λ v e₂.
      through_in (Then l m) l (parties_test t.shedder u.zone t.acquirer v.zone) _ same (λ x₃ e₃.
      through_in (Then l m) l (months_test l.month t.first t.last) _ same (λ x₄ e₄.
      through_in (Then l m) l (price_test t.price) _ same (λ _ _.
      through_in (Then l m) l (quantity_test t.quantity) _ same (λ _ _.
      through_in (Then l m) l (position_test (shedding t) u.row) _ same (λ less _.
      through_in (Then l m) l (position_test (acquiring t) v.row) _ same (λ more _.
      trade_fixed _ _ (both_rows l t.shedder t.acquirer u v less more (found_by l t.shedder u e₁) (found_by l t.acquirer v e₂) (two_parties t.shedder u.zone t.acquirer v.zone x₃ e₃).0)
      (not_running t.first t.last m l.month (first_later l t.first t.last x₄ e₄) b.high))))))))))

  auction_fixed : (t : Auction) → Then l m (auction_call l t)
  auction_fixed t =
      through_in (Then l m) l (room_test 128 (length l.standing.trades) TradesFull) _ same (λ _ _.
      through_in (Then l m) l (resource_test l.standing t.resource) _ same (λ u e₁.
      through_in (Then l m) l (months_test l.month t.first t.last) _ same (λ x₂ e₂.
      through_in (Then l m) l (price_test t.price) _ same (λ _ _.
      through_in (Then l m) l (quantity_test (nat_abs t.quantity)) _ same (λ _ _.
      through_in (Then l m) l (position_test (auction_change t) u.row) _ same (λ row _.
      trade_fixed _ _ (one_row l.standing.resources t.resource u row (found_by l t.resource u e₁))
      (not_running t.first t.last m l.month (first_later l t.first t.last x₂ e₂) b.high)))))))

  event_fixed : (ticket z day hour hours : ℕ) (t : Table) → Then l m (event_call l ticket z day hour hours t)
  event_fixed ticket z day hour hours t =
      through (Then l m) l (ticket_test l Running ticket) _ same (λ _ _.
      through (Then l m) l (zone_test l.standing z) _ same (λ _ _.
      through (Then l m) l (hours_test l.year l.month day hour hours) _ same (λ _ _.
      through (Then l m) l (overlap_test l.events z l.month day hour hours) _ same (λ _ _.
      through (Then l m) l (events_test l.events z l.month hours) _ same (λ _ _.
      through (Then l m) l (cover_test l.standing t hours) _ same (λ _ _.
      record { still = record { low = b.low; high = b.high; set_up = b.set_up }; held = λ r. refl; paid = λ r. refl; deducted = λ r. refl }))))))

  -- the rent of a month counts from the next month on
  rent_fixed : (ticket z amount : ℕ) → Then l m (rent_call l ticket z amount)
  rent_fixed ticket z amount =
      through (Then l m) l (ticket_test l Running ticket) _ same (λ _ _.
      through (Then l m) l (zone_test l.standing z) _ same (λ _ _.
      through (Then l m) l (amount_test amount) _ same (λ _ _.
      through (Then l m) l (entered_test l.rents l.month z) _ same (λ _ _.
      record {
        still = record { low = b.low; high = b.high; set_up = b.set_up };
        held = λ r. refl;
        paid = λ r. refl;
        deducted = λ r. rent_later l.standing l.rents (record { zone = z; month = l.month; amount = amount }) r m b.high;
      }))))

  close_fixed : (ticket : ℕ) → Then l m (close_call l ticket)
  close_fixed ticket =
      through (Then l m) l (ticket_test l Running ticket) _ same (λ _ _.
      through (Then l m) l (missing_test l.standing l.rents l.month) _ same (λ _ _.
      record { still = record { low = b.low; high = b.high; set_up = ended }; held = λ r. refl; paid = λ r. refl; deducted = λ r. refl }))

  next_fixed : (ticket : ℕ) → Then l m (next_call l ticket)
  next_fixed ticket =
      through (Then l m) l (ticket_test l Closed ticket) _ same (λ _ _.
      through (Then l m) l (period_test l) _ same (λ _ _.
      record { still = record { low = b.low; high = omega (arith, b.high); set_up = running }; held = λ r. refl; paid = λ r. refl; deducted = λ r. refl }))

step_fixed : (l : Ledger) (m : ℕ) → Begun l m → (c : Call) → Fixed l (step l c) m
unfolding step
step_fixed l m b (zone ticket price rents) = through (Then l m) l (ticket_test l SetUp ticket) _ (same l m b) (over l m b ticket)
step_fixed l m b (resource ticket z letter cleared supplied) = through (Then l m) l (ticket_test l SetUp ticket) _ (same l m b) (over l m b ticket)
step_fixed l m b (load ticket z obligation) = through (Then l m) l (ticket_test l SetUp ticket) _ (same l m b) (over l m b ticket)
step_fixed l m b (bilateral t) = bilateral_fixed l m b t
step_fixed l m b (auction t) = auction_fixed l m b t
step_fixed l m b (begin ticket) = through (Then l m) l (ticket_test l SetUp ticket) _ (same l m b) (over l m b ticket)
step_fixed l m b (event ticket z day hour hours t) = event_fixed l m b ticket z day hour hours t
step_fixed l m b (rent ticket z amount) = rent_fixed l m b ticket z amount
step_fixed l m b (close ticket) = close_fixed l m b ticket
step_fixed l m b (next ticket) = next_fixed l m b ticket

both : (l₁ l₂ l₃ : Ledger) (m : ℕ) → Fixed l₁ l₂ m → Fixed l₂ l₃ m → Fixed l₁ l₃ m
both l₁ l₂ l₃ m a b = record { still = b.still; held = λ r. b.held r ∙ a.held r; paid = λ r. b.paid r ∙ a.paid r; deducted = λ r. b.deducted r ∙ a.deducted r }

pub begun_months_fixed_lem : BegunMonthsFixed
unfolding after_all
begun_months_fixed_lem l m [] b = itself l m b
begun_months_fixed_lem l m (x ∷ xs) b = let s = step_fixed l m b x in both l (step l x) (after_all (step l x) xs) m s (begun_months_fixed_lem (step l x) m xs s.still)
