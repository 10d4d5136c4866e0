-- Every call keeps the ledger sound.
use Rattle.std.proofs.Common.{◌≡◌, ℕ, ◌<◌, false, not, eqb, ltb, leb, List, [], ◌∷◌, length, ℤ, nat_abs, Ok, refl, arith}
use Rattle.std.specs.List.{AllByRecursion}
use Rattle.std.proofs.lemmas.Bool.{eqb-true, eqb-false, leb-false, ltb-false, or_parts, not-false}
use Rattle.readings.specs.Table.{Table, Lawful}
use Rattle.rules.specs.declared.refusal.Refusal.TheVariants.{ZonesFull, ResourcesFull, LoadsFull, TradesFull, ResourceUnknown, Position}
use Rattle.rules.specs.declared.rows.Auction.{Auction}
use Rattle.rules.specs.declared.rows.Bilateral.{Bilateral}
use Rattle.rules.specs.declared.rows.Resource.{Resource}
use Rattle.rules.specs.declared.rows.Stage.TheVariants.{SetUp, Running, Closed}
use Rattle.rules.specs.Calls.{Answered, zone_call, resource_call, load_call, bilateral_call, auction_call, begin_call, event_call, rent_call, close_call, next_call, event_of}
use Rattle.rules.specs.Ledger.{Ledger, opened}
use Rattle.rules.specs.Positions.{changed_row, shedding, acquiring, auction_change}
use Rattle.rules.specs.Rows.{no_resource, numbered}
use Rattle.rules.specs.Runs.{Call, LawfulCall, zone, resource, load, bilateral, auction, begin, event, rent, close, next, step, after_all}
use Rattle.rules.specs.Tests.{ticket_test, period_test, room_test, price_test, rents_test, zone_test, class_test, cleared_test, supplied_test, obligation_test, resource_test, parties_test, months_test, quantity_test, position_test, hours_test, overlap_test, events_test, cover_test, amount_test, entered_test, missing_test}
use Rattle.rules.proofs.Booked.{auction_kept, bilateral_kept}
use Rattle.rules.proofs.Bounds.{price_within, rents_within, cleared_within, supplied_within, quantity_within, amount_within, obligation_within, found_bounded, zone_bounded, resource_bounded, load_bounded, rent_bounded, trade_bounded, row_bounded}
use Rattle.rules.proofs.Changes.{Found, found}
use Rattle.rules.proofs.Entering.{parties_stay, month_begins, resource_enters, rent_enters}
use Rattle.rules.proofs.Penalty.{LawfulEvent}
use Rattle.rules.proofs.Posting.{event_sound}
use Rattle.rules.proofs.Sound.{Kept}
use Rattle.rules.proofs.Through.{through, through_in, passed, given, month_of}

-- ---- what the tests of a call tell
pub months_tell : (month first last : ℕ) (x : Unit {0}) → months_test month first last ≡ Ok x → (ltb first 1 ≡ false) × (ltb last first ≡ false) × (ltb 12 last ≡ false) × (month < first)
months_tell month first last x e =
    let h₁ = or_parts (ltb first 1) _ (passed _ _ x e) in
    let h₂ = or_parts (ltb last first) _ h₁.1 in
    let h₃ = or_parts (ltb 12 last) (leb first month) h₂.1 in
    (h₁.0, h₂.0, h₃.0, leb-false first month h₃.1)

pub first_later : (l : Ledger) (first last : ℕ) (x : Unit {0}) → months_test l.month first last ≡ Ok x → l.month < first
first_later l first last x e = (months_tell l.month first last x e).3

pub found_by : (l : Ledger) (n : ℕ) (x : Resource) → resource_test l.standing n ≡ Ok x → Found no_resource l.standing.resources n x
found_by l n x e = found no_resource l.standing.resources n x (given (numbered l.standing.resources n) ResourceUnknown x e)

pub two_parties : (a z b y : ℕ) (x : Unit {0}) → parties_test a z b y ≡ Ok x → (a ≡ b → ⊥) × (z ≡ y)
two_parties a z b y x e = let h = or_parts (eqb a b) (not (eqb z y)) (passed _ _ x e) in (eqb-false a b h.0, eqb-true z y (not-false _ h.1))

pub event_lawful : (l : Ledger) (ticket z day hour hours : ℕ) (t : Table) (x y w : Unit {0}) → ticket_test l Running ticket ≡ Ok x → hours_test l.year l.month day hour hours ≡ Ok y → cover_test l.standing t hours ≡ Ok w → Lawful t → Kept l →
    LawfulEvent l.standing l.month t (event_of l z day hour hours)
event_lawful l ticket z day hour hours t x y w e₁ e₂ e₃ lawful k =
    let h₁ = or_parts (ltb day 1) _ (passed _ _ y e₂) in
    let h₂ = or_parts _ _ h₁.1 in
    let h₃ = or_parts (ltb 23 hour) _ h₂.1 in
    let h₄ = or_parts (ltb hours 1) _ h₃.1 in
    let h₅ = or_parts (ltb 24 hours) _ h₄.1 in
    record {
      of_month = refl;
      low = month_of l Running ticket x e₁ k;
      hours_low = ltb-false hours 1 h₄.0;
      hours_high = ltb-false 24 hours h₅.0;
      covered = not-false _ (passed _ _ w e₃);
      lawful = lawful;
    }

-- ---- each call
abbrev pub Then : {A E : Type 0} → Answered A E → Type 0
Then a = Kept a.1

module _ (l : Ledger) (k : Kept l) where
  pub zone_kept : (ticket price : ℕ) (rents : List ℕ) → Then (zone_call l ticket price rents)
  zone_kept ticket price rents =
      through Then l (ticket_test l SetUp ticket) _ (λ _. k) (λ x e.
      through_in Then l (room_test 8 (length l.standing.zones) ZonesFull) _ (λ _. k) (λ _ _.
      through_in Then l (price_test price) _ (λ _. k) (λ x₂ e₂.
      through_in Then l (rents_test rents) _ (λ _. k) (λ x₃ e₃.
      let z = month_of l SetUp ticket x e k in
      record { bounds = zone_bounded l k.bounds _ (price_within price x₂ e₂, rents_within rents x₃ e₃); sound = rw z (parties_stay l.standing _ _ l.rents l.postings (rw z at k.sound)); stage = k.stage }))))

  pub load_kept : (ticket z : ℕ) (obligation : ℤ) → Then (load_call l ticket z obligation)
  load_kept ticket z obligation =
      through Then l (ticket_test l SetUp ticket) _ (λ _. k) (λ x e.
      through_in Then l (zone_test l.standing z) _ (λ _. k) (λ _ _.
      through_in Then l (room_test 32 (length l.standing.loads) LoadsFull) _ (λ _. k) (λ _ _.
      through_in Then l (obligation_test obligation) _ (λ _. k) (λ x₂ e₂.
      let z = month_of l SetUp ticket x e k in
      record { bounds = load_bounded l k.bounds _ (obligation_within obligation x₂ e₂); sound = rw z (parties_stay l.standing _ _ l.rents l.postings (rw z at k.sound)); stage = k.stage }))))

  pub resource_kept : (ticket z letter cleared supplied : ℕ) → Then (resource_call l ticket z letter cleared supplied)
  resource_kept ticket z letter cleared supplied =
      through Then l (ticket_test l SetUp ticket) _ (λ _. k) (λ x e.
      through_in Then l (zone_test l.standing z) _ (λ _. k) (λ _ _.
      through_in Then l (room_test 64 (length l.standing.resources) ResourcesFull) _ (λ _. k) (λ _ _.
      through_in Then l (class_test letter) _ (λ _. k) (λ class _.
      through_in Then l (cleared_test cleared) _ (λ _. k) (λ y c.
      through_in Then l (supplied_test cleared supplied) _ (λ _. k) (λ v d.
      let z = month_of l SetUp ticket x e k in
      let low = cleared_within cleared y c in
      record { bounds = resource_bounded l k.bounds _ (low, supplied_within cleared supplied v d); sound = rw z (resource_enters l.standing _ l.rents l.postings low refl (rw z at k.sound)); stage = k.stage }))))))

  pub bilateral_then : (t : Bilateral) → Then (bilateral_call l t)
  bilateral_then t =
      through_in Then l (room_test 128 (length l.standing.trades) TradesFull) _ (λ _. k) (λ _ _.
      through_in Then l (resource_test l.standing t.shedder) _ (λ _. k) (λ u e₁.
      through_in Then l (resource_test l.standing t.acquirer) _ (λ _. k) (λ v e₂.
      through_in Then l (parties_test t.shedder u.zone t.acquirer v.zone) _ (λ _. k) (λ x₃ e₃.
      through_in Then l (months_test l.month t.first t.last) _ (λ _. k) (λ x₄ e₄.
      through_in Then l (price_test t.price) _ (λ _. k) (λ x₇ e₇.
      through_in Then l (quantity_test t.quantity) _ (λ _. k) (λ x₈ e₈.
      through_in Then l (position_test (shedding t) u.row) _ (λ _. k) (λ less e₅.
      through_in Then l (position_test (acquiring t) v.row) _ (λ _. k) (λ more e₆.
      let p = two_parties t.shedder u.zone t.acquirer v.zone x₃ e₃ in
      let f = found_by l t.shedder u e₁ in
      let g = found_by l t.acquirer v e₂ in
      record {
        bounds = trade_bounded l k.bounds _ _ (row_bounded l k.bounds _ _ v more (row_bounded l k.bounds _ _ u less k.bounds.resources (found_bounded l.standing l.rents t.shedder u k.bounds f)) (found_bounded l.standing l.rents t.acquirer v k.bounds g)) (quantity_within t.quantity x₈ e₈, price_within t.price x₇ e₇);
        sound = bilateral_kept l k t u v less more f g p.0 p.1 (first_later l t.first t.last x₄ e₄)
            (given (changed_row (shedding t) u.row) Position less e₅) (given (changed_row (acquiring t) v.row) Position more e₆);
        stage = k.stage;
      })))))))))

  pub auction_then : (t : Auction) → Then (auction_call l t)
  auction_then t =
      through_in Then l (room_test 128 (length l.standing.trades) TradesFull) _ (λ _. k) (λ _ _.
      through_in Then l (resource_test l.standing t.resource) _ (λ _. k) (λ u e₁.
      through_in Then l (months_test l.month t.first t.last) _ (λ _. k) (λ x₂ e₂.
      through_in Then l (price_test t.price) _ (λ _. k) (λ x₄ e₄.
      through_in Then l (quantity_test (nat_abs t.quantity)) _ (λ _. k) (λ x₅ e₅.
      through_in Then l (position_test (auction_change t) u.row) _ (λ _. k) (λ row e₃.
      let f = found_by l t.resource u e₁ in
      record {
        bounds = trade_bounded l k.bounds _ _ (row_bounded l k.bounds _ _ u row k.bounds.resources (found_bounded l.standing l.rents t.resource u k.bounds f)) (quantity_within (nat_abs t.quantity) x₅ e₅, price_within t.price x₄ e₄);
        sound = auction_kept l k t u row f (first_later l t.first t.last x₂ e₂) (given (changed_row (auction_change t) u.row) Position row e₃);
        stage = k.stage;
      }))))))

  pub begin_kept : (ticket : ℕ) → Then (begin_call l ticket)
  begin_kept ticket =
      through Then l (ticket_test l SetUp ticket) _ (λ _. k) (λ x e.
      record { bounds = k.bounds; sound = month_begins l.standing 0 l.rents l.postings (omega arith) (rw (month_of l SetUp ticket x e k) at k.sound); stage = omega arith })

  pub event_kept : (ticket z day hour hours : ℕ) (t : Table) → Lawful t → Then (event_call l ticket z day hour hours t)
  event_kept ticket z day hour hours t w =
      through Then l (ticket_test l Running ticket) _ (λ _. k) (λ x e₁.
      through Then l (zone_test l.standing z) _ (λ _. k) (λ _ _.
      through Then l (hours_test l.year l.month day hour hours) _ (λ _. k) (λ y e₂.
      through Then l (overlap_test l.events z l.month day hour hours) _ (λ _. k) (λ _ _.
      through Then l (events_test l.events z l.month hours) _ (λ _. k) (λ _ _.
      through Then l (cover_test l.standing t hours) _ (λ _. k) (λ v e₃.
      record { bounds = k.bounds; sound = event_sound l.standing l.rents l.postings t (event_of l z day hour hours) l.month (event_lawful l ticket z day hour hours t x y v e₁ e₂ e₃ w k) k.sound; stage = k.stage }))))))

  pub rent_kept : (ticket z amount : ℕ) → Then (rent_call l ticket z amount)
  rent_kept ticket z amount =
      through Then l (ticket_test l Running ticket) _ (λ _. k) (λ _ _.
      through Then l (zone_test l.standing z) _ (λ _. k) (λ _ _.
      through Then l (amount_test amount) _ (λ _. k) (λ x e.
      through Then l (entered_test l.rents l.month z) _ (λ _. k) (λ _ _.
      record { bounds = rent_bounded l k.bounds _ (amount_within amount x e); sound = rent_enters l.standing l.month l.rents l.postings (record { zone = z; month = l.month; amount = amount }) refl k.sound; stage = k.stage }))))

  pub close_kept : (ticket : ℕ) → Then (close_call l ticket)
  close_kept ticket =
      through Then l (ticket_test l Running ticket) _ (λ _. k) (λ x e.
      through Then l (missing_test l.standing l.rents l.month) _ (λ _. k) (λ _ _.
      record { bounds = k.bounds; sound = k.sound; stage = month_of l Running ticket x e k }))

  pub next_kept : (ticket : ℕ) → Then (next_call l ticket)
  next_kept ticket =
      through Then l (ticket_test l Closed ticket) _ (λ _. k) (λ _ _.
      through Then l (period_test l) _ (λ _. k) (λ x e.
      record { bounds = k.bounds; sound = month_begins l.standing l.month l.rents l.postings (leb-false 12 l.month (passed _ _ x e)) k.sound; stage = omega arith }))

-- ---- runs
pub step_kept : (l : Ledger) (c : Call) → LawfulCall c → Kept l → Kept (step l c)
unfolding step
step_kept l (zone ticket price rents) w k = zone_kept l k ticket price rents
step_kept l (resource ticket z letter cleared supplied) w k = resource_kept l k ticket z letter cleared supplied
step_kept l (load ticket z obligation) w k = load_kept l k ticket z obligation
step_kept l (bilateral t) w k = bilateral_then l k t
step_kept l (auction t) w k = auction_then l k t
step_kept l (begin ticket) w k = begin_kept l k ticket
step_kept l (event ticket z day hour hours t) w k = event_kept l k ticket z day hour hours t w
step_kept l (rent ticket z amount) w k = rent_kept l k ticket z amount
step_kept l (close ticket) w k = close_kept l k ticket
step_kept l (next ticket) w k = next_kept l k ticket

pub after_kept : (cs : List Call) (l : Ledger) → AllByRecursion LawfulCall cs → Kept l → Kept (after_all l cs)
unfolding after_all
after_kept [] l w k = k
after_kept (c ∷ cs) l w k = after_kept cs (step l c) w.1 (step_kept l c w.0 k)

pub opened_kept : (year peak : ℕ) → Kept (opened year peak)
opened_kept year peak = record {
  bounds = record { zones = tt; resources = tt; loads = tt; trades = tt; entered = tt };
  sound = record {
    year = omega arith;
    rows = λ r m k a b. absurd (omega (arith, k.low, k.high));
    trades = tt;
    postings = tt;
    limits = λ r m k a b. absurd (omega arith);
  };
  stage = refl;
}
