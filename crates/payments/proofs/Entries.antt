-- What stands under a number keeps the limits of the entries. Assumes nothing.
use Rattle.std.proofs.Common.{◌≡◌, ℕ, zero, suc, ◌-◌, ◌≤◌, List, [], ◌∷◌, get_or, drop, sum, ℤ, pos, ◌-ℤ◌, Some, None, Option, sym, refl, ap, ◌∙◌, subst, ap₂, arith}
use mathlib.Core.Logic.{∥∥₁_elim, ∥∥₁_map}
use native.Mathlib.Bridge.{le_prop}
use borrow.Author.Differences.{ints}
use lib.IntN.{ℤ_set}
use Rattle.std.specs.Int.{int_max}
use Rattle.std.specs.List.{slice_get, All, AllByRecursion, AllByRecursion-prop}
use Rattle.std.specs.Option.{MatchOption, IfSome}
use Rattle.std.proofs.ByRecursion.{All-get_or}
use Rattle.rules.specs.declared.rows.Zone.{Zone}
use Rattle.rules.specs.declared.rows.Resource.{Resource}
use Rattle.rules.specs.declared.rows.Trade.{Trade}
use Rattle.rules.specs.declared.rows.Trade.TheVariants.{Bilateral, Auction}
use Rattle.rules.specs.Kept.{ZoneBounded, ResourceBounded, TradeBounded}
use Rattle.rules.specs.Ledger.{Standing, resource_of, zone_of}
use Rattle.rules.specs.Positions.{position, row_at}
use Rattle.rules.specs.Rents.{exposed}
use Rattle.rules.specs.Rows.{row_of, numbered, no_zone, no_resource}
use Rattle.rules.specs.Sums.{Known}
use Rattle.rules.specs.Totals.{total}
use Rattle.payments.proofs.Sums.{prior_total}
use Rattle.payments.specs.Settles.{Settles, zone_row}

-- ---- rows by their numbers
nth_found : {X : Type 0} (d : X) (xs : List X) (i : ℕ) → MatchOption (slice_get xs i) (get_or xs i d ≡ d) (λ x. get_or xs i d ≡ x)
nth_found d [] i = refl
nth_found d (x ∷ xs) zero = refl
nth_found d (x ∷ xs) (suc i) = nth_found d xs i

row_found : {X : Type 0} (d : X) (xs : List X) (n : ℕ) → MatchOption (numbered xs n) (row_of d xs n ≡ d) (λ x. row_of d xs n ≡ x)
row_found d xs zero = refl
row_found d xs (suc i) = nth_found d xs i

-- what holds of every row, and of none
get_or_all : {X : Type 0} (P : X → Type 0) (d : X) (xs : List X) (i : ℕ) → P d → AllByRecursion P xs → P (get_or xs i d)
get_or_all P d [] i h a = h
get_or_all P d (x ∷ xs) zero h a = a.0
get_or_all P d (x ∷ xs) (suc i) h a = get_or_all P d xs i h a.1

pub row_all : {X : Type 0} (P : X → Type 0) (d : X) (xs : List X) (n : ℕ) → P d → AllByRecursion P xs → P (row_of d xs n)
row_all P d xs zero h a = h
row_all P d xs (suc i) h a = get_or_all P d xs i h a

-- what holds of the zone that was found, and of none
pub of_zone : (P : Zone → Type 0) (row : Zone) (o : Option Zone) → MatchOption o (row ≡ no_zone) (λ z. row ≡ z) → MatchOption o (P no_zone) P → P row
of_zone P row None e h = subst P (sym e) h
of_zone P row (Some z) e h = subst P (sym e) h

nothing_left : (i : ℕ) → 0 ≡ sum (drop i [])
nothing_left zero = refl
nothing_left (suc i) = refl

pub prior_is : (row : Zone) (o : Option Zone) (r i : ℕ) → MatchOption o (row ≡ no_zone) (λ z. row ≡ z) → MatchOption o (r ≡ 0) (λ z. r ≡ sum (drop i z.rents)) → pos r ≡ total pos (drop i row.rents)
prior_is row o r i e h = ap pos (by o e h) ∙ sym (prior_total (drop i row.rents))
  where
    by : (o : Option Zone) → MatchOption o (row ≡ no_zone) (λ z. row ≡ z) → MatchOption o (r ≡ 0) (λ z. r ≡ sum (drop i z.rents)) → r ≡ sum (drop i row.rents)
    by None e h = h ∙ nothing_left i ∙ ap (λ (z : Zone). sum (drop i z.rents)) (sym e)
    by (Some z) e h = h ∙ ap (λ (z : Zone). sum (drop i z.rents)) (sym e)

both : (a b c d : ℕ) → ∥ (a ≤ b) × (c ≤ d) ∥₁ → (a ≤ b) × (c ≤ d)
both a b c d h = (∥∥₁_elim h le_prop (λ k. k.0), ∥∥₁_elim h le_prop (λ k. k.1))

trade_bounded : (t : Trade) → ∥ TradeBounded t ∥₁ → TradeBounded t
trade_bounded (Bilateral b) h = both _ _ _ _ h
trade_bounded (Auction a) h = both _ _ _ _ h

module _ (s : Standing) (k : ∥ Settles s ∥₁) where
  pub trades_bounded : (ts : List Trade) → ts ≡ s.trades → All TradeBounded ts
  trades_bounded ts e i d lt = trade_bounded _ (∥∥₁_map {B = TradeBounded (get_or ts i d)} k (λ h. All-get_or TradeBounded ts i d lt (subst (AllByRecursion TradeBounded) (sym e) h.trades)))

  zone_bounded : (n : ℕ) → ZoneBounded (row_of no_zone s.zones n)
  zone_bounded n =
      let z = row_of no_zone s.zones n in
      let row = λ (h : Settles s). row_all ZoneBounded no_zone s.zones n (omega arith, tt) h.zones in
      (∥∥₁_elim k le_prop (λ h. (row h).0), ∥∥₁_elim k (AllByRecursion-prop (λ x. x ≤ 10000000000) (λ x. le_prop) z.rents) (λ h. (row h).1))

  module _ (n : ℕ) (r : Resource) (stands : resource_of s n ≡ r) where
    pub zone_found : (o : Option Zone) → o ≡ numbered s.zones r.zone → MatchOption o (zone_row s n ≡ no_zone) (λ z. zone_row s n ≡ z)
    unfolding zone_of
    zone_found o e = rw (e, ← stands) (row_found no_zone s.zones (zone_of s n))

    pub zone_limits : (o : Option Zone) → MatchOption o (zone_row s n ≡ no_zone) (λ z. zone_row s n ≡ z) → IfSome o ZoneBounded
    zone_limits None e = tt
    zone_limits (Some z) e = subst ZoneBounded e (zone_bounded (zone_of s n))

    pub resource_limits : (r.cleared ≤ 200000) × (r.supplied ≤ r.cleared)
    unfolding resource_of
    resource_limits = both _ _ _ _ (∥∥₁_map {B = ResourceBounded r} k (λ h. subst ResourceBounded stands (row_all ResourceBounded no_resource s.resources n (omega arith, omega arith) h.resources)))

    module _ (m : ℕ) (known : Known s n) (low : 1 ≤ m) (high : m ≤ 12) where
      -- the row of the resource has its position
      here : row_at s n m ≡ get_or r.row (m - 1) 0
      unfolding row_at
      here = ap (λ (q : Resource). get_or q.row (m - 1) 0) stands

      pub held_most : get_or r.row (m - 1) 0 ≤ 200000
      held_most = ∥∥₁_elim k le_prop (λ h. subst (λ (q : ℕ). q ≤ 200000) here (h.rows n m known low high).high)

      pub held_is : pos (get_or r.row (m - 1) 0) ≡ position s n m
      held_is = ∥∥₁_elim k (ℤ_set _ _) (λ h. ap pos (sym here) ∙ (h.rows n m known low high).same)

      pub exposed_is : pos (get_or r.row (m - 1) 0 - r.supplied) ≡ exposed s n m
      unfolding exposed
      exposed_is =
          let above : pos (get_or r.row (m - 1) 0 - r.supplied) ≡ int_max (pos 0) (pos (get_or r.row (m - 1) 0) -ℤ pos r.supplied) = grind (arith, ints) in
          above ∙ ap₂ (λ (p : ℤ) (q : Resource). int_max (pos 0) (p -ℤ pos q.supplied)) held_is (sym stands)
