-- Sums of signed amounts over a list. Assumes nothing.
use Rattle.std.proofs.Common.{◌≡◌, ℕ, ◌+◌, ◌*◌, ◌^◌, ◌<◌, ◌≤◌, List, [], ◌∷◌, length, map, fold, ℤ, pos, ◌+ℤ◌, nat_abs, w64, refl, subst, arith}
use borrow.Author.Differences.{ints}
use denote.Param.Members.{Mut}
use denote.Ref.{Bor}
use Rattle.std.specs.declared.iter.Map.{Map}
use Rattle.std.specs.declared.slice.Iter.{Iter}
use Rattle.std.specs.Fn.{Called}
use Rattle.std.specs.Int.RustNames.{FitsSigned}
use Rattle.std.specs.Iterator.{Yields, Drains}
use Rattle.std.specs.Iterator.Adapters.{map_source, map_callee, map_steps}
use Rattle.std.specs.Iterator.Runs.{EachRunFrom}
use Rattle.std.specs.Slice.Iter.{iter_rest}
use Rattle.std.proofs.iter.Yields.{fronts}
use Rattle.std.proofs.iter.runs.Made.{runs_from_along}
use Rattle.std.proofs.lemmas.Int.{fits_signed_from_abs}
use Rattle.std.proofs.lemmas.Iterator.{YieldsList, YieldsList-from_slice, YieldsList-from_map}
use Rattle.std.proofs.lemmas.Iterator.Adapters.{YieldsAtMost, at_most_from_yields_List, total_from_yields_List}
use Rattle.std.proofs.lemmas.List.{length-map}
use Rattle.std.proofs.lemmas.Nat.{mul-le}
use Rattle.sharing.specs.Shares.{sum_z}

fold_from : (a : ℤ) (xs : List ℤ) → fold ◌+ℤ◌ a xs ≡ a +ℤ sum_z xs
fold_from a [] = omega (arith, ints)
fold_from a (x ∷ xs) = omega (arith, ints, fold_from (a +ℤ x) xs)

-- the sum over a slice of what a closure gives, where each amount is that of h, and at most `most`
module _ {A F : Type 0} (g : Mut F (Bor A × Unit {0}) ℤ) (h : A → ℤ) (s : Map (Iter A) F) (most many : ℕ)
    (k : (x : Bor A) (r : ℤ) (q : F) → Called g (map_callee s) (x, tt) r q → (q ≡ map_callee s) × (r ≡ h x.now) × (nat_abs r ≤ most))
    (xs : List A) (e : iter_rest (map_source s) ≡ xs) (few : length xs ≤ many) where
  grows : (rs : List ℤ) (a : ℤ) (u t : Map (Iter A) F) → map_callee u ≡ map_callee s → Yields (map_steps fronts g) u rs t → nat_abs (fold ◌+ℤ◌ a rs) ≤ nat_abs a + most * length rs
  grows [] a u t i y = omega arith
  grows (r ∷ rs) a u t i y =
      let c = k y.1.0 r _ (subst (λ f. Called g f (y.1.0, tt) r (map_callee y.0)) i y.1.2) in
      omega (arith, ints, grows rs (a +ℤ r) y.0 t c.0 y.2, c.2)

  road : YieldsList (map_steps fronts g) (λ r. r) s (map h xs)
  road = YieldsList-from_map g h (YieldsList-from_slice xs e) refl (λ x r q c. ((k x r q c).0, (k x r q c).1))

  small : (rs : List ℤ) (t : Map (Iter A) F) → Yields (map_steps fronts g) s rs t → nat_abs (fold ◌+ℤ◌ (pos 0) rs) ≤ most * many
  small rs t y =
      let limit : YieldsAtMost (map_steps fronts g) s many = at_most_from_yields_List road (omega (arith, length-map xs h)) in
      omega (arith, grows rs (pos 0) s t refl y, mul-le most (length rs) most many (omega arith) (limit.runs rs t y))

  pub sum_fits : most * many < 2 ^ 63 → EachRunFrom (map_steps fronts g) s (λ p. FitsSigned w64 (fold ◌+ℤ◌ (pos 0) p.items))
  sum_fits low = runs_from_along (map_steps fronts g) s (λ rs. FitsSigned w64 (fold ◌+ℤ◌ (pos 0) rs)) (λ rs t y. fits_signed_from_abs w64 _ (omega (arith, small rs t y)))

  pub sum_is : (r : ℤ) → ((rs : List ℤ) × (Unit {0} → Drains (map_steps fronts g) s rs) × (r ≡ fold ◌+ℤ◌ (pos 0) rs)) → (r ≡ sum_z (map h xs)) × (nat_abs r ≤ most * many)
  sum_is r ran =
      let d = ran.1 tt in
      (omega (arith, ints, total_from_yields_List ◌+ℤ◌ (pos 0) r ran road, fold_from (pos 0) (map h xs)), rw ran.2 (small ran.0 d.1.0 d.1.1))
