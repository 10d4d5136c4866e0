-- A trade that was booked is booked again in set-up, whatever the zones and loads, and before resources that follow.
use Rattle.std.proofs.Common.{◌≡◌, ℕ, zero, suc, ◌-◌, List, [], ◌∷◌, ◌++◌, map, length, set, nat_abs, Some, Ok, Err, Result, refl, ap, ◌∙◌, arith, length-set}
use Rattle.std.specs.Option.{ok_or}
use Rattle.std.proofs.lemmas.List.{set-append_left}
use Rattle.std.proofs.lemmas.Bool.{lt-leb}
use Rattle.rules.specs.declared.refusal.Refusal.{Refusal}
use Rattle.rules.specs.declared.refusal.Refusal.TheVariants.{TradesFull, ResourceUnknown}
use Rattle.rules.specs.declared.rows.Auction.{Auction}
use Rattle.rules.specs.declared.rows.Bilateral.{Bilateral}
use Rattle.rules.specs.declared.rows.Zone.{Zone}
use Rattle.rules.specs.declared.rows.Resource.{Resource}
use Rattle.rules.specs.declared.rows.Load.{Load}
use Rattle.rules.specs.declared.rows.Trade.{Trade}
use Rattle.rules.specs.declared.rows.Trade.TheVariants as trade
use Rattle.rules.specs.Calls.{Answered, into, bilateral_call, auction_call}
use Rattle.rules.specs.Chains.{after, then}
use Rattle.rules.specs.Ledger.{Standing, Ledger}
use Rattle.rules.specs.Positions.{shedding, acquiring, auction_change, with_row}
use Rattle.rules.specs.Replays.{trade_entry, taken, enter, enter_all, set_up}
use Rattle.rules.specs.Rows.{no_resource, numbered}
use Rattle.rules.specs.Tests.{room_test, price_test, resource_test, parties_test, months_test, quantity_test, position_test}
use Rattle.rules.proofs.Changes.{Found}
use Rattle.rules.proofs.Steps.{months_tell, found_by}
use Rattle.rules.proofs.Through.{given, clash}

-- ---- what the tests of a trade tell
numbered_grown : {X : Type 0} (xs ys : List X) (n : ℕ) (x : X) → numbered xs n ≡ Some x → numbered (xs ++ ys) n ≡ Some x
numbered_grown xs ys zero x e = e
numbered_grown [] ys (suc i) x e = absurd (let z : ◌≡◌ {A = ℕ} 0 1 = cc in omega arith)
numbered_grown (y ∷ xs) ys (suc zero) x e = e
numbered_grown (y ∷ xs) ys (suc (suc i)) x e = numbered_grown xs ys (suc i) x e

found_still : (xs ys : List Resource) (n : ℕ) (x : Resource) → ok_or (numbered xs n) ResourceUnknown ≡ Ok x → ok_or (numbered (xs ++ ys) n) ResourceUnknown ≡ Ok x
found_still xs ys n x e = rw (numbered_grown xs ys n x (given (numbered xs n) ResourceUnknown x e)) refl

-- months that have not begun now had not in set-up
months_sooner : (month first last : ℕ) (x : Unit {0}) → months_test month first last ≡ Ok x → months_test 0 first last ≡ Ok x
months_sooner month first last x e = let h = months_tell month first last x e in rw (h.0, h.1, h.2, lt-leb first 0 (omega (arith, h.3))) refl

-- ---- two chains of tests
parts : {A B E : Type 0} (r : Result A E) (rest : A → Result B E) (y : B) → then r rest ≡ Ok y → (x : A) × (r ≡ Ok x) × (rest x ≡ Ok y)
parts (Err e) rest y h = absurd (clash e y h)
parts (Ok x) rest y h = (x, refl, h)

abbrev Goes : {A : Type 0} → (Ledger → Ledger) → Answered A Refusal → Answered A Refusal → Type 0
Goes g a b = (new : Ledger) → taken a ≡ Ok new → taken b ≡ Ok (g new)

-- What the one accepts, the other does, where its tests pass as those of the first do.
both : {A B : Type 0} (g : Ledger → Ledger) (l k : Ledger) (t u : Result B Refusal) (rest more : B → Result A Refusal × Standing) → ((x : B) → t ≡ Ok x → u ≡ Ok x) → ((x : B) → t ≡ Ok x → Goes g (into l (rest x)) (into k (more x))) →
    Goes g (into l (after l.standing t rest)) (into k (after k.standing u more))
both g l k (Err e) u rest more h i new q = absurd (clash e new q)
both g l k (Ok x) u rest more h i new q = rw (h x refl) (i x refl new q)

same : {B : Type 0} (t : Result B Refusal) (x : B) → t ≡ Ok x → t ≡ Ok x
same t x e = e

module _ (zs : List Zone) (rs : List Resource) (ks : List Load) where
  -- in set-up, with these zones and loads, and with further resources
  abbrev pub grown : Ledger → Ledger
  grown l = set_up l.year l.peak (record { zones = zs; resources = l.standing.resources ++ rs; loads = ks; trades = l.standing.trades })

  grown_is : (l new k : Ledger) → ◌≡◌ {A = Result Ledger Refusal} (Ok l) (Ok new) → k ≡ grown l → ◌≡◌ {A = Result Ledger Refusal} (Ok k) (Ok (grown new))
  grown_is l new k e h = cc

  one_set : (xs : List Resource) (n : ℕ) (x y : Resource) → Found no_resource xs n x → set (xs ++ rs) (n - 1) y ≡ set xs (n - 1) y ++ rs
  one_set xs n x y f = set-append_left xs rs (n - 1) y (omega (arith, f.low, f.high))

  two_set : (xs : List Resource) (n m : ℕ) (u v x y : Resource) → Found no_resource xs n u → Found no_resource xs m v → set (set (xs ++ rs) (n - 1) x) (m - 1) y ≡ set (set xs (n - 1) x) (m - 1) y ++ rs
  two_set xs n m u v x y f g = ap (λ (ys : List Resource). set ys (m - 1) y) (one_set xs n u x f) ∙ set-append_left (set xs (n - 1) x) rs (m - 1) y (omega (arith, g.low, g.high, length-set xs (n - 1) x))

  bilateral_again : (l : Ledger) (t : Bilateral) → Goes grown (bilateral_call l t) (bilateral_call (grown l) t)
  bilateral_again l t =
      both grown l (grown l) (room_test 128 (length l.standing.trades) TradesFull) _ _ _ (same _) (λ _ _.
      both grown l (grown l) (resource_test l.standing t.shedder) _ _ _ (found_still l.standing.resources rs t.shedder) (λ u e₁.
      both grown l (grown l) (resource_test l.standing t.acquirer) _ _ _ (found_still l.standing.resources rs t.acquirer) (λ v e₂.
      both grown l (grown l) (parties_test t.shedder u.zone t.acquirer v.zone) _ _ _ (same _) (λ _ _.
      both grown l (grown l) (months_test l.month t.first t.last) _ _ _ (months_sooner l.month t.first t.last) (λ _ _.
      both grown l (grown l) (price_test t.price) _ _ _ (same _) (λ _ _.
      both grown l (grown l) (quantity_test t.quantity) _ _ _ (same _) (λ _ _.
      both grown l (grown l) (position_test (shedding t) u.row) _ _ _ (same _) (λ less _.
      both grown l (grown l) (position_test (acquiring t) v.row) _ _ _ (same _) (λ more _ new e.
      grown_is _ new _ e (rw (two_set l.standing.resources t.shedder t.acquirer u v (with_row u less) (with_row v more) (found_by l t.shedder u e₁) (found_by l t.acquirer v e₂)) refl))))))))))

  auction_again : (l : Ledger) (t : Auction) → Goes grown (auction_call l t) (auction_call (grown l) t)
  auction_again l t =
      both grown l (grown l) (room_test 128 (length l.standing.trades) TradesFull) _ _ _ (same _) (λ _ _.
      both grown l (grown l) (resource_test l.standing t.resource) _ _ _ (found_still l.standing.resources rs t.resource) (λ u e₁.
      both grown l (grown l) (months_test l.month t.first t.last) _ _ _ (months_sooner l.month t.first t.last) (λ _ _.
      both grown l (grown l) (price_test t.price) _ _ _ (same _) (λ _ _.
      both grown l (grown l) (quantity_test (nat_abs t.quantity)) _ _ _ (same _) (λ _ _.
      both grown l (grown l) (position_test (auction_change t) u.row) _ _ _ (same _) (λ row _ new e.
      grown_is _ new _ e (rw (one_set l.standing.resources t.resource u (with_row u row) (found_by l t.resource u e₁)) refl)))))))

  -- ---- one trade, and all
  pub trade_again : (t : Trade) (l new : Ledger) → enter 0 (trade_entry t) l ≡ Ok new → enter 0 (trade_entry t) (grown l) ≡ Ok (grown new)
  unfolding enter
  trade_again (trade.Bilateral t) l new e = bilateral_again l t new e
  trade_again (trade.Auction t) l new e = auction_again l t new e

  pub trades_again : (ts : List Trade) (l new : Ledger) → enter_all 0 (map trade_entry ts) l ≡ Ok new → enter_all 0 (map trade_entry ts) (grown l) ≡ Ok (grown new)
  unfolding enter_all
  trades_again [] l new e = grown_is l new (grown l) e refl
  trades_again (t ∷ ts) l new e = let p = parts (enter 0 (trade_entry t) l) (enter_all 0 (map trade_entry ts)) new e in rw (trade_again t l p.0 p.1) (trades_again ts p.0 new p.2)

pub trades_push : (ts : List Trade) (t : Trade) (l old new : Ledger) → enter_all 0 (map trade_entry ts) l ≡ Ok old → enter 0 (trade_entry t) old ≡ Ok new → enter_all 0 (map trade_entry (ts ++ t ∷ [])) l ≡ Ok new
unfolding enter_all
trades_push [] t l old new e h = let at : enter 0 (trade_entry t) l ≡ Ok new = cc in rw at refl
trades_push (u ∷ ts) t l old new e h = let p = parts (enter 0 (trade_entry u) l) (enter_all 0 (map trade_entry ts)) old e in rw p.1 (trades_push ts t p.0 old new p.2 h)
