-- What the accepted events of a zone and month answered is the zone's pool of penalties.
use Rattle.std.proofs.Common.{◌≡◌, ℕ, zero, suc, ◌+◌, ◌≤◌, Bool, true, false, cond, ◌&&◌, eqb, List, [], ◌∷◌, ◌++◌, length, ℤ, pos, ◌+ℤ◌, nat_abs, Err, sym, refl, ap, ◌∙◌, subst, arith}
use borrow.Author.Differences.{ints}
use lib.IntN.{+ℤ_idr, +ℤ_idl, +ℤ_assoc}
use Rattle.std.specs.List.{AllByRecursion}
use Rattle.std.proofs.lemmas.List.{append-nil, append_assoc}
use Rattle.std.proofs.lemmas.Bool.{eqb-true}
use Rattle.readings.specs.Table.{Table}
use Rattle.rules.specs.declared.refusal.Refusal.{Refusal}
use Rattle.rules.specs.declared.refusal.Refusal.TheVariants.{ZonesFull, ResourcesFull, LoadsFull, TradesFull}
use Rattle.rules.specs.declared.rows.Auction.{Auction}
use Rattle.rules.specs.declared.rows.Bilateral.{Bilateral}
use Rattle.rules.specs.declared.rows.Rent.{Rent}
use Rattle.rules.specs.declared.rows.Event.{Event}
use Rattle.rules.specs.declared.rows.Posting.{Posting}
use Rattle.rules.specs.declared.rows.Resource.{Resource}
use Rattle.rules.specs.declared.rows.Trade.{Trade}
use Rattle.rules.specs.declared.rows.Stage.TheVariants.{SetUp, Running, Closed}
use Rattle.rules.specs.Calls.{Answered, event_of, zone_call, resource_call, load_call, bilateral_call, auction_call, begin_call, event_call, rent_call, close_call, next_call}
use Rattle.rules.specs.Credits.{zone_sum, pool}
use Rattle.rules.specs.Ledger.{Standing, Ledger, opened, zone_of}
use Rattle.rules.specs.Penalties.{month_penalty, posting_of, added, penalties_in}
use Rattle.rules.specs.Positions.{shedding, acquiring, auction_change}
use Rattle.rules.specs.Runs.{Call, LawfulCall, zone, resource, load, bilateral, auction, begin, event, rent, close, next, step, after_all, sum_in, answer, answered}
use Rattle.rules.specs.Sums.{Known}
use Rattle.rules.specs.Tests.{ticket_test, period_test, room_test, price_test, rents_test, zone_test, class_test, cleared_test, supplied_test, obligation_test, resource_test, parties_test, months_test, quantity_test, position_test, hours_test, overlap_test, events_test, cover_test, amount_test, entered_test, missing_test}
use Rattle.rules.specs.Totals.{only, total, sum_to}
use Rattle.rules.proofs.Booked.{both_rows}
use Rattle.rules.proofs.Posting.{added_to, added_more, added_none, added_all}
use Rattle.rules.proofs.Sound.{PostingSound, Kept}
use Rattle.rules.proofs.Steps.{found_by, two_parties, step_kept}
use Rattle.rules.proofs.Through.{through, through_in, month_of}
use Rattle.rules.proofs.Totals.{only_nil, sum_same}
use Rattle.rules.proofs.Trading.{SameButRows, one_row, traded, zone_stays}
use Rattle.rules.proofs.Zones.{pool_push, zone_nil}

-- ---- an event
pub penalties_push : (ps : List Posting) (p : Posting) → penalties_in (ps ++ p ∷ []) ≡ penalties_in ps + p.penalty
penalties_push [] p = omega arith
penalties_push (q ∷ ps) p = let ih = penalties_push ps p in omega arith

posting_low : (s : Standing) (rents : List Rent) (ps : List Posting) (t : Table) (e : Event) (n : ℕ) → suc n ≤ length s.resources → Known s (posting_of s rents ps t e (suc n)).resource
unfolding posting_of
posting_low s rents ps t e n h = record { low = omega arith; high = h }

own_zone : (s : Standing) (rents : List Rent) (ps : List Posting) (t : Table) (e : Event) (r z m : ℕ) → zone_of s r ≡ e.zone →
    (eqb (zone_of s (posting_of s rents ps t e r).resource) z && eqb (posting_of s rents ps t e r).month m) ≡ (eqb e.zone z && eqb e.month m)
unfolding posting_of
own_zone s rents ps t e r z m q = ap (λ (y : ℕ). eqb y z && eqb e.month m) q

-- what the posting adds to the pool, it adds to the sum
joined : (b b' : Bool) (now before : ℤ) (sum x sum' : ℕ) → now ≡ before +ℤ only b (pos sum) → sum' ≡ sum + x → b' ≡ b → now +ℤ only b' (pos x) ≡ before +ℤ only b (pos sum')
unfolding only
joined true b' now before sum x sum' e f g = rw g (omega (arith, ints))
joined false b' now before sum x sum' e f g = rw g (omega (arith, ints))

added_pool : (s : Standing) (rents : List Rent) (ps : List Posting) (t : Table) (e : Event) (n z m : ℕ) → n ≤ length s.resources →
    pool s (ps ++ added_to s rents ps t e n) z m ≡ pool s ps z m +ℤ only (eqb e.zone z && eqb e.month m) (pos (penalties_in (added_to s rents ps t e n)))
added_pool s rents ps t e zero z m w = rw (added_none s rents ps t e, append-nil ps, only_nil (eqb e.zone z && eqb e.month m)) (sym (+ℤ_idr (pool s ps z m)))
added_pool s rents ps t e (suc n) z m w =
    rw (added_more s rents ps t e n) (by (eqb (zone_of s (suc n)) e.zone) refl (added_pool s rents ps t e n z m (omega arith)))
  where
    xs : List Posting
    xs = added_to s rents ps t e n

    p : Posting
    p = posting_of s rents ps t e (suc n)

    here : Bool
    here = eqb e.zone z && eqb e.month m

    by : (c : Bool) → eqb (zone_of s (suc n)) e.zone ≡ c → pool s (ps ++ xs) z m ≡ pool s ps z m +ℤ only here (pos (penalties_in xs)) →
        pool s (ps ++ (xs ++ cond c (p ∷ []) [])) z m ≡ pool s ps z m +ℤ only here (pos (penalties_in (xs ++ cond c (p ∷ []) [])))
    by false q ih = rw (append-nil xs) ih
    by true q ih =
        ap (λ (u : List Posting). pool s u z m) (sym (append_assoc ps xs (p ∷ [])))
        ∙ pool_push s (ps ++ xs) p z m (posting_low s rents ps t e n w)
        ∙ joined here _ (pool s (ps ++ xs) z m) (pool s ps z m) (penalties_in xs) p.penalty (penalties_in (xs ++ p ∷ [])) ih (penalties_push xs p) (own_zone s rents ps t e (suc n) z m (eqb-true _ _ q))

event_pool : (s : Standing) (rents : List Rent) (ps : List Posting) (t : Table) (e : Event) (z m : ℕ) →
    pool s (ps ++ added s rents ps t e) z m ≡ pool s ps z m +ℤ only (eqb e.zone z && eqb e.month m) (pos (penalties_in (added s rents ps t e)))
event_pool s rents ps t e z m = rw (added_all s rents ps t e) (added_pool s rents ps t e (length s.resources) z m (omega arith))

-- ---- a call that is no event
none_posted : (s : Standing) (ps : List Posting) → AllByRecursion (PostingSound s 0) ps → ps ≡ []
none_posted s [] h = refl
none_posted s (p ∷ ps) h = absurd (omega (arith, h.0.low, h.0.high))

nothing_pooled : (s : Standing) (z m : ℕ) → pool s [] z m ≡ pos 0
unfolding pool month_penalty total
nothing_pooled s z m = zone_nil s z

-- in set-up both pools are empty
set_up_pool : (s s' : Standing) (ps : List Posting) (z m : ℕ) (b : ℕ) → b ≡ 0 → AllByRecursion (PostingSound s b) ps → pool s' ps z m ≡ pool s ps z m +ℤ pos 0
set_up_pool s s' ps z m b e h =
    let none : ps ≡ [] = none_posted s ps (subst (λ (b : ℕ). AllByRecursion (PostingSound s b) ps) e h) in
    rw (none, nothing_pooled s' z m, nothing_pooled s z m) refl

-- a trade leaves every resource in its zone
traded_pool : (s : Standing) (rs : List Resource) (x : Trade) (ps : List Posting) (z m : ℕ) → SameButRows s.resources rs → pool (traded s rs x) ps z m ≡ pool s ps z m +ℤ pos 0
unfolding pool zone_sum
traded_pool s rs x ps z m same =
    ap (λ (n : ℕ). sum_to n (λ r. only (eqb (zone_of (traded s rs x) r) z) (month_penalty ps r m))) same.count
    ∙ sum_same (length s.resources) _ _ (λ r _ _. ap (λ (y : ℕ). only (eqb y z) (month_penalty ps r m)) (zone_stays s rs x same r))
    ∙ sym (+ℤ_idr (sum_to (length s.resources) (λ r. only (eqb (zone_of s r) z) (month_penalty ps r m))))

module _ (l : Ledger) (k : Kept l) (z m : ℕ) where
  abbrev Adds : {A E : Type 0} → ℤ → Answered A E → Type 0
  Adds x a = pool a.1.standing a.1.postings z m ≡ pool l.standing l.postings z m +ℤ x

  stays : pool l.standing l.postings z m ≡ pool l.standing l.postings z m +ℤ pos 0
  stays = sym (+ℤ_idr (pool l.standing l.postings z m))

  zone_pool : (ticket price : ℕ) (rents : List ℕ) → Adds (pos 0) (zone_call l ticket price rents)
  zone_pool ticket price rents =
      through (Adds (pos 0)) l (ticket_test l SetUp ticket) _ (λ _. stays) (λ x e.
      through_in (Adds (pos 0)) l (room_test 8 (length l.standing.zones) ZonesFull) _ (λ _. stays) (λ _ _.
      through_in (Adds (pos 0)) l (price_test price) _ (λ _. stays) (λ _ _.
      through_in (Adds (pos 0)) l (rents_test rents) _ (λ _. stays) (λ _ _.
      set_up_pool l.standing _ l.postings z m l.month (month_of l SetUp ticket x e k) k.sound.postings))))

  load_pool : (ticket y : ℕ) (obligation : ℤ) → Adds (pos 0) (load_call l ticket y obligation)
  load_pool ticket y obligation =
      through (Adds (pos 0)) l (ticket_test l SetUp ticket) _ (λ _. stays) (λ x e.
      through_in (Adds (pos 0)) l (zone_test l.standing y) _ (λ _. stays) (λ _ _.
      through_in (Adds (pos 0)) l (room_test 32 (length l.standing.loads) LoadsFull) _ (λ _. stays) (λ _ _.
      through_in (Adds (pos 0)) l (obligation_test obligation) _ (λ _. stays) (λ _ _.
      set_up_pool l.standing _ l.postings z m l.month (month_of l SetUp ticket x e k) k.sound.postings))))

  resource_pool : (ticket y letter cleared supplied : ℕ) → Adds (pos 0) (resource_call l ticket y letter cleared supplied)
  resource_pool ticket y letter cleared supplied =
      through (Adds (pos 0)) l (ticket_test l SetUp ticket) _ (λ _. stays) (λ x e.
      through_in (Adds (pos 0)) l (zone_test l.standing y) _ (λ _. stays) (λ _ _.
      through_in (Adds (pos 0)) l (room_test 64 (length l.standing.resources) ResourcesFull) _ (λ _. stays) (λ _ _.
      through_in (Adds (pos 0)) l (class_test letter) _ (λ _. stays) (λ _ _.
      through_in (Adds (pos 0)) l (cleared_test cleared) _ (λ _. stays) (λ _ _.
      through_in (Adds (pos 0)) l (supplied_test cleared supplied) _ (λ _. stays) (λ _ _.
      set_up_pool l.standing _ l.postings z m l.month (month_of l SetUp ticket x e k) k.sound.postings))))))

  bilateral_pool : (t : Bilateral) → Adds (pos 0) (bilateral_call l t)
  bilateral_pool t =
      through_in (Adds (pos 0)) l (room_test 128 (length l.standing.trades) TradesFull) _ (λ _. stays) (λ _ _.
      through_in (Adds (pos 0)) l (resource_test l.standing t.shedder) _ (λ _. stays) (λ u e₁.
      through_in (Adds (pos 0)) l (resource_test l.standing t.acquirer) _ (λ _. stays) (λ v e₂.
      through_in (Adds (pos 0)) l (parties_test t.shedder u.zone t.acquirer v.zone) _ (λ _. stays) (λ x₃ e₃.
      through_in (Adds (pos 0)) l (months_test l.month t.first t.last) _ (λ _. stays) (λ _ _.
      through_in (Adds (pos 0)) l (price_test t.price) _ (λ _. stays) (λ _ _.
      through_in (Adds (pos 0)) l (quantity_test t.quantity) _ (λ _. stays) (λ _ _.
      through_in (Adds (pos 0)) l (position_test (shedding t) u.row) _ (λ _. stays) (λ less _.
      through_in (Adds (pos 0)) l (position_test (acquiring t) v.row) _ (λ _. stays) (λ more _.
      traded_pool l.standing _ _ l.postings z m (both_rows l t.shedder t.acquirer u v less more (found_by l t.shedder u e₁) (found_by l t.acquirer v e₂) (two_parties t.shedder u.zone t.acquirer v.zone x₃ e₃).0))))))))))

  auction_pool : (t : Auction) → Adds (pos 0) (auction_call l t)
  auction_pool t =
      through_in (Adds (pos 0)) l (room_test 128 (length l.standing.trades) TradesFull) _ (λ _. stays) (λ _ _.
      through_in (Adds (pos 0)) l (resource_test l.standing t.resource) _ (λ _. stays) (λ u e₁.
      through_in (Adds (pos 0)) l (months_test l.month t.first t.last) _ (λ _. stays) (λ _ _.
      through_in (Adds (pos 0)) l (price_test t.price) _ (λ _. stays) (λ _ _.
      through_in (Adds (pos 0)) l (quantity_test (nat_abs t.quantity)) _ (λ _. stays) (λ _ _.
      through_in (Adds (pos 0)) l (position_test (auction_change t) u.row) _ (λ _. stays) (λ row _.
      traded_pool l.standing _ _ l.postings z m (one_row l.standing.resources t.resource u row (found_by l t.resource u e₁))))))))

  begin_pool : (ticket : ℕ) → Adds (pos 0) (begin_call l ticket)
  begin_pool ticket = through (Adds (pos 0)) l (ticket_test l SetUp ticket) _ (λ _. stays) (λ _ _. stays)

  rent_pool : (ticket y amount : ℕ) → Adds (pos 0) (rent_call l ticket y amount)
  rent_pool ticket y amount =
      through (Adds (pos 0)) l (ticket_test l Running ticket) _ (λ _. stays) (λ _ _.
      through (Adds (pos 0)) l (zone_test l.standing y) _ (λ _. stays) (λ _ _.
      through (Adds (pos 0)) l (amount_test amount) _ (λ _. stays) (λ _ _.
      through (Adds (pos 0)) l (entered_test l.rents l.month y) _ (λ _. stays) (λ _ _. stays))))

  close_pool : (ticket : ℕ) → Adds (pos 0) (close_call l ticket)
  close_pool ticket =
      through (Adds (pos 0)) l (ticket_test l Running ticket) _ (λ _. stays) (λ _ _.
      through (Adds (pos 0)) l (missing_test l.standing l.rents l.month) _ (λ _. stays) (λ _ _. stays))

  next_pool : (ticket : ℕ) → Adds (pos 0) (next_call l ticket)
  next_pool ticket =
      through (Adds (pos 0)) l (ticket_test l Closed ticket) _ (λ _. stays) (λ _ _.
      through (Adds (pos 0)) l (period_test l) _ (λ _. stays) (λ _ _. stays))

  -- an accepted event adds what it answers
  abbrev AddsAnswer : ℕ → Answered ℕ Refusal → Type 0
  AddsAnswer y a = Adds (only (eqb y z && eqb l.month m) (sum_in a.0)) a

  refused : (y : ℕ) (e : Refusal) → AddsAnswer y (Err e, l)
  refused y e = rw (only_nil (eqb y z && eqb l.month m)) stays

  event_call_pool : (ticket y day hour hours : ℕ) (t : Table) → AddsAnswer y (event_call l ticket y day hour hours t)
  event_call_pool ticket y day hour hours t =
      through (AddsAnswer y) l (ticket_test l Running ticket) _ (refused y) (λ _ _.
      through (AddsAnswer y) l (zone_test l.standing y) _ (refused y) (λ _ _.
      through (AddsAnswer y) l (hours_test l.year l.month day hour hours) _ (refused y) (λ _ _.
      through (AddsAnswer y) l (overlap_test l.events y l.month day hour hours) _ (refused y) (λ _ _.
      through (AddsAnswer y) l (events_test l.events y l.month hours) _ (refused y) (λ _ _.
      through (AddsAnswer y) l (cover_test l.standing t hours) _ (refused y) (λ _ _.
      event_pool l.standing l.rents l.postings t (event_of l y day hour hours) z m))))))

-- ---- runs
step_pool : (l : Ledger) (c : Call) (z m : ℕ) → Kept l → pool (step l c).standing (step l c).postings z m ≡ pool l.standing l.postings z m +ℤ answer z m l c
unfolding step answer
step_pool l (zone ticket price rents) z m k = zone_pool l k z m ticket price rents
step_pool l (resource ticket y letter cleared supplied) z m k = resource_pool l k z m ticket y letter cleared supplied
step_pool l (load ticket y obligation) z m k = load_pool l k z m ticket y obligation
step_pool l (bilateral t) z m k = bilateral_pool l k z m t
step_pool l (auction t) z m k = auction_pool l k z m t
step_pool l (begin ticket) z m k = begin_pool l k z m ticket
step_pool l (event ticket y day hour hours t) z m k = event_call_pool l k z m ticket y day hour hours t
step_pool l (rent ticket y amount) z m k = rent_pool l k z m ticket y amount
step_pool l (close ticket) z m k = close_pool l k z m ticket
step_pool l (next ticket) z m k = next_pool l k z m ticket

after_pool : (cs : List Call) (l : Ledger) (z m : ℕ) → AllByRecursion LawfulCall cs → Kept l → pool (after_all l cs).standing (after_all l cs).postings z m ≡ pool l.standing l.postings z m +ℤ answered z m l cs
unfolding after_all answered
after_pool [] l z m w k = sym (+ℤ_idr (pool l.standing l.postings z m))
after_pool (c ∷ cs) l z m w k =
    after_pool cs (step l c) z m w.1 (step_kept l c w.0 k)
    ∙ ap (λ (x : ℤ). x +ℤ answered z m (step l c) cs) (step_pool l c z m k)
    ∙ +ℤ_assoc (pool l.standing l.postings z m) (answer z m l c) (answered z m (step l c) cs)

-- from the opening on, the pool is what was answered
pub run_pool : (year peak : ℕ) (cs : List Call) (z m : ℕ) → AllByRecursion LawfulCall cs → Kept (opened year peak) → pool (after_all (opened year peak) cs).standing (after_all (opened year peak) cs).postings z m ≡ answered z m (opened year peak) cs
run_pool year peak cs z m w k =
    after_pool cs (opened year peak) z m w k
    ∙ ap (λ (x : ℤ). x +ℤ answered z m (opened year peak) cs) (nothing_pooled (opened year peak).standing z m)
    ∙ +ℤ_idl (answered z m (opened year peak) cs)
