-- What it tells that no value is above a limit.
use Rattle.std.proofs.Common.{◌≡◌, ℕ, zero, suc, ◌*◌, ◌<◌, ◌≤◌, false, ltb, List, [], ◌∷◌, length, get_or, sum, refl, subst, arith}
use Rattle.std.proofs.lemmas.Bool.{or_parts, or_from, ltb-false, le-ltb}
use Rattle.std.proofs.ByRecursion.{sum_by_le}
use Rattle.std.specs.List.{AllByRecursion}
use Rattle.rules.specs.Tests.{any_above}

pub none_above : (limit : ℕ) (xs : List ℕ) (k : ℕ) → any_above limit xs ≡ false → get_or xs k 0 ≤ limit
none_above limit [] k h = omega arith
none_above limit (x ∷ xs) zero h = ltb-false limit x (or_parts (ltb limit x) (any_above limit xs) h).0
none_above limit (x ∷ xs) (suc k) h = none_above limit xs k (or_parts (ltb limit x) (any_above limit xs) h).1

pub above_none : (limit : ℕ) (xs : List ℕ) → ((k : ℕ) → k < length xs → get_or xs k 0 ≤ limit) → any_above limit xs ≡ false
above_none limit [] h = refl
above_none limit (x ∷ xs) h = or_from (ltb limit x) (any_above limit xs) (le-ltb limit x (h 0 (omega arith))) (above_none limit xs (λ k lt. h (suc k) (omega arith)))

pub all_below : (limit : ℕ) (xs : List ℕ) → any_above limit xs ≡ false → AllByRecursion (λ x. x ≤ limit) xs
all_below limit [] h = tt
all_below limit (x ∷ xs) h = let p = or_parts (ltb limit x) (any_above limit xs) h in (ltb-false limit x p.0, all_below limit xs p.1)

-- twelve values, none above the limit
pub sum_of_twelve : (limit : ℕ) (xs : List ℕ) → length xs ≡ 12 → any_above limit xs ≡ false → sum xs ≤ 12 * limit
sum_of_twelve limit xs n h = subst (λ (k : ℕ). sum xs ≤ k * limit) n (sum_by_le (λ x. x) limit xs (all_below limit xs h))
