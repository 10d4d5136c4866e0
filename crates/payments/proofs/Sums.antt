-- Sums over a list, and how large they can be. Assumes nothing.
use Rattle.std.proofs.Common.{◌≡◌, ℕ, ◌*◌, ◌≤◌, Bool, true, false, cond, List, [], ◌∷◌, length, map, drop, sum, sum_by, filter, ℤ, pos, ◌+ℤ◌, refl, ap, arith, length-drop}
use mathlib.Core.Logic.{∥∥₁_elim}
use native.Mathlib.Bridge.{le_prop}
use borrow.Author.Differences.{ints}
use Rattle.std.specs.List.{AllByRecursion}
use Rattle.std.proofs.ByRecursion.{All-drop, all_kept_by}
use Rattle.std.proofs.lemmas.List.Elements.{All-from_recursion}
use Rattle.std.proofs.lemmas.List.Sums.{sum_by-cons, sum_by-le, length-filter, count_by-le-length}
use Rattle.sharing.specs.Shares.{sum_z}
use Rattle.rules.specs.declared.rows.Rent.{Rent}
use Rattle.rules.specs.Rents.{rent_before}
use Rattle.rules.specs.Totals.{only, total}
use Rattle.payments.specs.Earlier.{is_earlier}
use Rattle.payments.specs.Settles.{AmountsBounded}

sum_small : {X : Type 0} (f : X → ℕ) (xs : List X) → AllByRecursion (λ x. f x ≤ 10000000000) xs → sum_by f xs ≤ length xs * 10000000000
sum_small f xs h = sum_by-le f 10000000000 xs (All-from_recursion (λ x. f x ≤ 10000000000) xs h)

pub total_is : {X : Type 0} (f : X → ℤ) (xs : List X) → total f xs ≡ sum_z (map f xs)
unfolding total
total_is f [] = refl
total_is f (x ∷ xs) = ap (λ s. f x +ℤ s) (total_is f xs)

-- ---- what is left of the twelve rents before June
pub prior_small : (xs : List ℕ) (i : ℕ) → AllByRecursion (λ x. x ≤ 10000000000) xs → length xs ≡ 12 → sum (drop i xs) ≤ 120000000000
prior_small xs i h e = omega (arith, sum_small (λ x. x) (drop i xs) (All-drop (λ x. x ≤ 10000000000) i xs h), length-drop i xs)

pub prior_total : (xs : List ℕ) → total pos xs ≡ pos (sum xs)
unfolding total
prior_total [] = refl
prior_total (x ∷ xs) = let ih : total pos xs ≡ pos (sum xs) = prior_total xs in omega (arith, ints, sum_by-cons (λ x. x) x xs)

-- ---- the rents entered since
pub entered_small : (z m : ℕ) (xs : List Rent) → AmountsBounded xs → length xs ≤ 96 → sum_by (λ r. r.amount) (filter (is_earlier z m) xs) ≤ 960000000000
entered_small z m xs h few = ∥∥₁_elim h le_prop (λ k.
    omega (
      arith,
      sum_small (λ (r : Rent). r.amount) (filter (is_earlier z m) xs) (all_kept_by (is_earlier z m) (λ (r : Rent). r.amount ≤ 10000000000) xs k),
      length-filter (is_earlier z m) xs,
      count_by-le-length (is_earlier z m) xs,
    ))

pub entered_total : (z m : ℕ) (xs : List Rent) → total (rent_before z m) xs ≡ pos (sum_by (λ r. r.amount) (filter (is_earlier z m) xs))
unfolding total rent_before only is_earlier
entered_total z m [] = refl
entered_total z m (x ∷ xs) = by (is_earlier z m x) (entered_total z m xs)
  where
    by : (b : Bool) → total (rent_before z m) xs ≡ pos (sum_by (λ r. r.amount) (filter (is_earlier z m) xs))
        → only b (pos x.amount) +ℤ total (rent_before z m) xs ≡ pos (sum_by (λ r. r.amount) (cond b (x ∷ filter (is_earlier z m) xs) (filter (is_earlier z m) xs)))
    by true ih = omega (arith, ints, ih, sum_by-cons (λ (r : Rent). r.amount) x (filter (is_earlier z m) xs))
    by false ih = omega (arith, ints, ih)
