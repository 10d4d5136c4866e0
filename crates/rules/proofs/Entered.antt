-- Every call keeps what lets the standing entries be entered again.
use Rattle.std.proofs.Common.{◌≡◌, ℕ, zero, suc, ◌≤◌, false, ltb, List, [], ◌∷◌, ◌++◌, map, length, get_or, ℤ, nat_abs, Ok, Err, sym, refl, ap, subst, ap₂, append-nil, arith}
use Rattle.std.specs.List.{AllByRecursion}
use Rattle.std.proofs.ByRecursion.{All-get_or, All-from_get_or, All-push, All-weaker}
use Rattle.std.proofs.lemmas.List.{length_push, map_push}
use Rattle.std.proofs.lemmas.Bool.{or_parts, or_from, leb-false, ltb-false, le-ltb}
use Rattle.readings.specs.Table.{Table}
use Rattle.rules.specs.declared.refusal.Refusal.{Refusal}
use Rattle.rules.specs.declared.refusal.Refusal.TheVariants.{ZonesFull, ResourcesFull, LoadsFull, TradesFull}
use Rattle.rules.specs.declared.rows.Auction.{Auction}
use Rattle.rules.specs.declared.rows.Bilateral.{Bilateral}
use Rattle.rules.specs.declared.rows.Zone.{Zone}
use Rattle.rules.specs.declared.rows.Resource.{Resource}
use Rattle.rules.specs.declared.rows.Load.{Load}
use Rattle.rules.specs.declared.rows.Trade.{Trade}
use Rattle.rules.specs.declared.rows.Trade.TheVariants as trade
use Rattle.rules.specs.declared.rows.Stage.TheVariants.{SetUp, Running, Closed}
use Rattle.rules.specs.Calls.{Answered, zone_call, resource_call, load_call, bilateral_call, auction_call, begin_call, event_call, rent_call, close_call, next_call}
use Rattle.rules.specs.Entered.{ZoneEnters, ResourceEnters, LoadEnters, as_cleared, untraded, Entered, TwelveRents}
use Rattle.rules.specs.Ledger.{Standing, Ledger, opened, with_standing, more_zone, more_resource, more_load, more_trade}
use Rattle.rules.specs.Positions.{shedding, acquiring, auction_change, with_row}
use Rattle.rules.specs.Replays.{trade_entry, taken, enter, enter_all, set_up, EntriesReplay}
use Rattle.rules.specs.Rows.{unknown, no_resource}
use Rattle.rules.specs.Runs.{Call, zone, resource, load, bilateral, auction, begin, event, rent, close, next, step, after_all}
use Rattle.rules.specs.Tests.{year_test, peak_test, ticket_test, period_test, room_test, price_test, rents_test, zone_test, class_test, cleared_test, supplied_test, obligation_test, resource_test, parties_test, months_test, quantity_test, position_test, hours_test, overlap_test, events_test, cover_test, amount_test, entered_test, missing_test}
use Rattle.rules.proofs.Booked.{both_rows}
use Rattle.rules.proofs.Entering.{with_parties}
use Rattle.rules.proofs.Rebooking.{trade_again, trades_again, trades_push}
use Rattle.rules.proofs.Replaying.{entered_remade}
use Rattle.rules.proofs.Steps.{found_by, two_parties}
use Rattle.rules.proofs.Through.{through, through_in, passed}
use Rattle.rules.proofs.Trading.{SameButRows, one_row}

-- ---- what an entry more leaves
-- there was room for one more
room_for : {X : Type 0} (limit : ℕ) (refusal : Refusal) (xs : List X) (y : X) (x : Unit {0}) → room_test limit (length xs) refusal ≡ Ok x → length (xs ++ y ∷ []) ≤ limit
room_for limit refusal xs y x e = omega (arith, leb-false limit (length xs) (passed _ refusal x e), length_push xs y)

-- a zone of the book stays one
known_still : (z n m : ℕ) → n ≤ m → unknown z n ≡ false → unknown z m ≡ false
known_still z n m h e = let p = or_parts (ltb z 1) (ltb n z) e in or_from (ltb z 1) (ltb m z) p.0 (le-ltb m z (omega (arith, ltb-false n z p.1)))

resource_still : (n m : ℕ) → n ≤ m → (r : Resource) → ResourceEnters n r → ResourceEnters m r
resource_still n m h r e = record { zone = known_still r.zone n m h e.zone; cleared = e.cleared; supplied = e.supplied }

load_still : (n m : ℕ) → n ≤ m → (k : Load) → LoadEnters n k → LoadEnters m k
load_still n m h k e = record { zone = known_still k.zone n m h e.zone; obligation = e.obligation }

-- ---- what a trade leaves of the resources
cleared_same : (xs ys : List Resource) → length ys ≡ length xs → ((i : ℕ) → get_or ys i no_resource ≡ with_row (get_or xs i no_resource) (get_or ys i no_resource).row) → map as_cleared ys ≡ map as_cleared xs
cleared_same [] [] e h = refl
cleared_same [] (y ∷ ys) e h = absurd (omega arith)
cleared_same (x ∷ xs) [] e h = absurd (omega arith)
cleared_same (x ∷ xs) (y ∷ ys) e h = ap₂ (λ (u : Resource) (us : List Resource). u ∷ us) (ap as_cleared (h zero)) (cleared_same xs ys (omega arith) (λ i. h (suc i)))

enters_same : (n : ℕ) (xs ys : List Resource) → SameButRows xs ys → AllByRecursion (ResourceEnters n) xs → AllByRecursion (ResourceEnters n) ys
enters_same n xs ys h all = All-from_get_or (ResourceEnters n) ys no_resource (λ i o.
    let e = All-get_or (ResourceEnters n) xs i no_resource (omega (arith, h.count)) all in
    subst (ResourceEnters n) (sym (h.rest (suc i))) (record { zone = e.zone; cleared = e.cleared; supplied = e.supplied }))

-- ---- one entry more
module _ (year peak : ℕ) (s : Standing) (k : Entered year peak s) where
  -- the trades do not ask for zones and loads
  parties_replay : (zs : List Zone) (ks : List Load) → enter_all 0 (map trade_entry s.trades) (untraded year peak (with_parties s zs ks)) ≡ Ok (set_up year peak (with_parties s zs ks))
  parties_replay zs ks = simp append-nil at (trades_again zs [] ks s.trades (untraded year peak s) (set_up year peak s) k.trades)

  zone_more : (z : Zone) → ZoneEnters z → length (s.zones ++ z ∷ []) ≤ 8 → Entered year peak (more_zone s z)
  zone_more z h room =
      let more : length s.zones ≤ length (s.zones ++ z ∷ []) = omega (arith, length_push s.zones z) in
      record {
        year_passes = k.year_passes;
        peak_passes = k.peak_passes;
        zones = All-push ZoneEnters s.zones z k.zones h;
        zones_fit = room;
        resources = All-weaker (ResourceEnters _) (ResourceEnters _) (resource_still _ _ more) s.resources k.resources;
        resources_fit = k.resources_fit;
        loads = All-weaker (LoadEnters _) (LoadEnters _) (load_still _ _ more) s.loads k.loads;
        loads_fit = k.loads_fit;
        trades = parties_replay (s.zones ++ z ∷ []) s.loads;
      }

  resource_more : (r : Resource) → r ≡ as_cleared r → ResourceEnters (length s.zones) r → length (s.resources ++ r ∷ []) ≤ 64 → Entered year peak (more_resource s r)
  resource_more r e h room = record {
    year_passes = k.year_passes;
    peak_passes = k.peak_passes;
    zones = k.zones;
    zones_fit = k.zones_fit;
    resources = All-push (ResourceEnters (length s.zones)) s.resources r k.resources h;
    resources_fit = room;
    loads = k.loads;
    loads_fit = k.loads_fit;
    trades = rw (map_push as_cleared s.resources r, ← e) (trades_again s.zones (r ∷ []) s.loads s.trades (untraded year peak s) (set_up year peak s) k.trades);
  }

  load_more : (q : Load) → LoadEnters (length s.zones) q → length (s.loads ++ q ∷ []) ≤ 32 → Entered year peak (more_load s q)
  load_more q h room = record {
    year_passes = k.year_passes;
    peak_passes = k.peak_passes;
    zones = k.zones;
    zones_fit = k.zones_fit;
    resources = k.resources;
    resources_fit = k.resources_fit;
    loads = All-push (LoadEnters (length s.zones)) s.loads q k.loads h;
    loads_fit = room;
    trades = parties_replay s.zones (s.loads ++ q ∷ []);
  }

  trade_more : (rs : List Resource) (t : Trade) → SameButRows s.resources rs → enter 0 (trade_entry t) (set_up year peak s) ≡ Ok (set_up year peak (more_trade s rs t)) → Entered year peak (more_trade s rs t)
  trade_more rs t h e = record {
    year_passes = k.year_passes;
    peak_passes = k.peak_passes;
    zones = k.zones;
    zones_fit = k.zones_fit;
    resources = enters_same (length s.zones) s.resources rs h k.resources;
    resources_fit = rw h.count k.resources_fit;
    loads = k.loads;
    loads_fit = k.loads_fit;
    trades = rw (cleared_same s.resources rs h.count (λ i. h.rest (suc i))) (trades_push s.trades t (untraded year peak s) (set_up year peak s) (set_up year peak (more_trade s rs t)) k.trades e);
  }

-- ---- each call
abbrev pub EnteredIn : Ledger → Type 0
EnteredIn l = Entered l.year l.peak l.standing

-- no call but a zone's adds a zone
pub record Enters (l new : Ledger) : Type 0 where
  pub entered : EnteredIn new
  pub zones : new.standing.zones ≡ l.standing.zones

module _ (l : Ledger) (k : EnteredIn l) where
  abbrev pub Then : {A E : Type 0} → Answered A E → Type 0
  Then a = Enters l a.1

  abbrev pub ZoneThen : Answered ℕ Refusal → Type 0
  ZoneThen a = EnteredIn a.1

  same : {E : Type 0} → E → Enters l l
  same e = record { entered = k; zones = refl }

  pub zone_entered : (ticket price : ℕ) (rents : List ℕ) → ZoneThen (zone_call l ticket price rents)
  zone_entered ticket price rents =
      through ZoneThen l (ticket_test l SetUp ticket) _ (λ _. k) (λ _ _.
      through_in ZoneThen l (room_test 8 (length l.standing.zones) ZonesFull) _ (λ _. k) (λ x e.
      through_in ZoneThen l (price_test price) _ (λ _. k) (λ _ e₂.
      through_in ZoneThen l (rents_test rents) _ (λ _. k) (λ _ e₃.
      zone_more l.year l.peak l.standing k _ (record { price = e₂; rents = e₃ }) (room_for 8 ZonesFull l.standing.zones _ x e)))))

  pub resource_entered : (ticket z letter cleared supplied : ℕ) → Then (resource_call l ticket z letter cleared supplied)
  resource_entered ticket z letter cleared supplied =
      through Then l (ticket_test l SetUp ticket) _ same (λ _ _.
      through_in Then l (zone_test l.standing z) _ same (λ x e.
      through_in Then l (room_test 64 (length l.standing.resources) ResourcesFull) _ same (λ x₂ e₂.
      through_in Then l (class_test letter) _ same (λ class _.
      through_in Then l (cleared_test cleared) _ same (λ _ e₃.
      through_in Then l (supplied_test cleared supplied) _ same (λ _ e₄.
      record { entered = resource_more l.year l.peak l.standing k _ refl (record { zone = passed _ _ x e; cleared = e₃; supplied = e₄ }) (room_for 64 ResourcesFull l.standing.resources _ x₂ e₂); zones = refl }))))))

  pub load_entered : (ticket z : ℕ) (obligation : ℤ) → Then (load_call l ticket z obligation)
  load_entered ticket z obligation =
      through Then l (ticket_test l SetUp ticket) _ same (λ _ _.
      through_in Then l (zone_test l.standing z) _ same (λ x e.
      through_in Then l (room_test 32 (length l.standing.loads) LoadsFull) _ same (λ x₂ e₂.
      through_in Then l (obligation_test obligation) _ same (λ _ e₃.
      record { entered = load_more l.year l.peak l.standing k _ (record { zone = passed _ _ x e; obligation = e₃ }) (room_for 32 LoadsFull l.standing.loads _ x₂ e₂); zones = refl }))))

  -- a trade that the book accepts now, set-up accepts
  trade_entered : (rs : List Resource) (t : Trade) → SameButRows l.standing.resources rs → enter 0 (trade_entry t) l ≡ Ok (with_standing l (more_trade l.standing rs t)) → Enters l (with_standing l (more_trade l.standing rs t))
  trade_entered rs t h e = record {
    entered = trade_more l.year l.peak l.standing k rs t h (simp append-nil at (trade_again l.standing.zones [] l.standing.loads t l _ e));
    zones = refl;
  }

  -- what the entry of the trade comes to
  abbrev Comes : Trade → Answered ℕ Refusal → Type 0
  Comes t a = enter 0 (trade_entry t) l ≡ taken a → Then a

  refused : (t : Trade) (e : Refusal) → Comes t (Err e, l)
  refused t e _ = same e

  pub bilateral_entered : (x : Bilateral) → Then (bilateral_call l x)
  unfolding enter
  bilateral_entered x =
      through_in (Comes t) l (room_test 128 (length l.standing.trades) TradesFull) _ (refused t) (λ _ _.
      through_in (Comes t) l (resource_test l.standing x.shedder) _ (refused t) (λ u e₁.
      through_in (Comes t) l (resource_test l.standing x.acquirer) _ (refused t) (λ v e₂.
      through_in (Comes t) l (parties_test x.shedder u.zone x.acquirer v.zone) _ (refused t) (λ x₃ e₃.
      through_in (Comes t) l (months_test l.month x.first x.last) _ (refused t) (λ _ _.
      through_in (Comes t) l (price_test x.price) _ (refused t) (λ _ _.
      through_in (Comes t) l (quantity_test x.quantity) _ (refused t) (λ _ _.
      through_in (Comes t) l (position_test (shedding x) u.row) _ (refused t) (λ less _.
      through_in (Comes t) l (position_test (acquiring x) v.row) _ (refused t) (λ more _ e.
      trade_entered _ t (both_rows l x.shedder x.acquirer u v less more (found_by l x.shedder u e₁) (found_by l x.acquirer v e₂) (two_parties x.shedder u.zone x.acquirer v.zone x₃ e₃).0) e))))))))) refl
    where
      t : Trade
      t = trade.Bilateral x

  pub auction_entered : (x : Auction) → Then (auction_call l x)
  unfolding enter
  auction_entered x =
      through_in (Comes t) l (room_test 128 (length l.standing.trades) TradesFull) _ (refused t) (λ _ _.
      through_in (Comes t) l (resource_test l.standing x.resource) _ (refused t) (λ u e₁.
      through_in (Comes t) l (months_test l.month x.first x.last) _ (refused t) (λ _ _.
      through_in (Comes t) l (price_test x.price) _ (refused t) (λ _ _.
      through_in (Comes t) l (quantity_test (nat_abs x.quantity)) _ (refused t) (λ _ _.
      through_in (Comes t) l (position_test (auction_change x) u.row) _ (refused t) (λ row _ e.
      trade_entered _ t (one_row l.standing.resources x.resource u row (found_by l x.resource u e₁)) e)))))) refl
    where
      t : Trade
      t = trade.Auction x

  -- a call of a month enters nothing that stands
  pub begin_entered : (ticket : ℕ) → Then (begin_call l ticket)
  begin_entered ticket = through Then l (ticket_test l SetUp ticket) _ same (λ _ _. record { entered = k; zones = refl })

  pub event_entered : (ticket z day hour hours : ℕ) (t : Table) → Then (event_call l ticket z day hour hours t)
  event_entered ticket z day hour hours t =
      through Then l (ticket_test l Running ticket) _ same (λ _ _.
      through Then l (zone_test l.standing z) _ same (λ _ _.
      through Then l (hours_test l.year l.month day hour hours) _ same (λ _ _.
      through Then l (overlap_test l.events z l.month day hour hours) _ same (λ _ _.
      through Then l (events_test l.events z l.month hours) _ same (λ _ _.
      through Then l (cover_test l.standing t hours) _ same (λ _ _. record { entered = k; zones = refl }))))))

  pub rent_entered : (ticket z amount : ℕ) → Then (rent_call l ticket z amount)
  rent_entered ticket z amount =
      through Then l (ticket_test l Running ticket) _ same (λ _ _.
      through Then l (zone_test l.standing z) _ same (λ _ _.
      through Then l (amount_test amount) _ same (λ _ _.
      through Then l (entered_test l.rents l.month z) _ same (λ _ _. record { entered = k; zones = refl }))))

  pub close_entered : (ticket : ℕ) → Then (close_call l ticket)
  close_entered ticket =
      through Then l (ticket_test l Running ticket) _ same (λ _ _.
      through Then l (missing_test l.standing l.rents l.month) _ same (λ _ _. record { entered = k; zones = refl }))

  pub next_entered : (ticket : ℕ) → Then (next_call l ticket)
  next_entered ticket =
      through Then l (ticket_test l Closed ticket) _ same (λ _ _.
      through Then l (period_test l) _ same (λ _ _. record { entered = k; zones = refl }))

-- ---- runs
pub step_entered : (l : Ledger) (c : Call) → EnteredIn l → EnteredIn (step l c)
unfolding step
step_entered l (zone ticket price rents) k = zone_entered l k ticket price rents
step_entered l (resource ticket z letter cleared supplied) k = (resource_entered l k ticket z letter cleared supplied).entered
step_entered l (load ticket z obligation) k = (load_entered l k ticket z obligation).entered
step_entered l (bilateral t) k = (bilateral_entered l k t).entered
step_entered l (auction t) k = (auction_entered l k t).entered
step_entered l (begin ticket) k = (begin_entered l k ticket).entered
step_entered l (event ticket z day hour hours t) k = (event_entered l k ticket z day hour hours t).entered
step_entered l (rent ticket z amount) k = (rent_entered l k ticket z amount).entered
step_entered l (close ticket) k = (close_entered l k ticket).entered
step_entered l (next ticket) k = (next_entered l k ticket).entered

pub after_entered : (cs : List Call) (l : Ledger) → EnteredIn l → EnteredIn (after_all l cs)
unfolding after_all
after_entered [] l k = k
after_entered (c ∷ cs) l k = after_entered cs (step l c) (step_entered l c k)

pub opened_entered : (year peak : ℕ) → year_test year ≡ Ok tt → peak_test peak ≡ Ok tt → EnteredIn (opened year peak)
unfolding enter_all
opened_entered year peak y p = record {
  year_passes = y;
  peak_passes = p;
  zones = tt;
  zones_fit = omega arith;
  resources = tt;
  resources_fit = omega arith;
  loads = tt;
  loads_fit = omega arith;
  trades = refl;
}

pub entries_replay_lem : EntriesReplay
entries_replay_lem year peak calls y p = entered_remade (after_all (opened year peak) calls) (after_entered calls (opened year peak) (opened_entered year peak y p))

-- ---- twelve rents
pub zone_twelve : (l : Ledger) (ticket price : ℕ) (rents : List ℕ) → length rents ≡ 12 → TwelveRents l.standing → TwelveRents (zone_call l ticket price rents).1.standing
zone_twelve l ticket price rents twelve h =
    through P l (ticket_test l SetUp ticket) _ (λ _. h) (λ _ _.
    through_in P l (room_test 8 (length l.standing.zones) ZonesFull) _ (λ _. h) (λ _ _.
    through_in P l (price_test price) _ (λ _. h) (λ _ _.
    through_in P l (rents_test rents) _ (λ _. h) (λ _ _.
    All-push (λ (z : Zone). length z.rents ≡ 12) l.standing.zones _ h twelve))))
  where
    P : Answered ℕ Refusal → Type 0
    P a = TwelveRents a.1.standing

pub twelve_stays : (l new : Ledger) → Enters l new → TwelveRents l.standing → TwelveRents new.standing
twelve_stays l new e h = rw e.zones h
