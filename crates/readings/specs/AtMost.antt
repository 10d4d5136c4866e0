-- What `at_most` tells of a list: the steps of a loop over it, and its elements. Assumes nothing.
use Rattle.std.specs.Prelude.{◌≡◌, ℕ, ◌+◌, ◌<◌, ◌≤◌, true, false, ◌&&◌, leb, List, length, drop, Decides, nat_le, slice_index, refl, All}
use Rattle.std.proofs.Common.{sym, ◌∙◌}
use Rattle.std.specs.List.{AllByRecursion}
use Rattle.std.proofs.lemmas.List.{at_drop_more, at_drop_all}
use Rattle.std.proofs.ByRecursion.{All-get_or, Decides-by_and}
use Rattle.std.proofs.lemmas.List.Elements.{All-from_recursion, recursion_from_All}
use Rattle.std.proofs.lemmas.Bool.{le-leb, lt-leb, leb-true}
use Rattle.readings.specs.Rules.{at_most}

pub at_most_more : (m : ℕ) (xs : List ℕ) (i : ℕ) → i < length xs → slice_index xs i ≤ m → at_most m (drop i xs) ≡ at_most m xs → at_most m (drop (i + 1) xs) ≡ at_most m xs
at_most_more m xs i within low left =
    let step : at_most m (drop i xs) ≡ (nat_le (slice_index xs i) m && at_most m (drop (i + 1) xs)) = at_drop_more (at_most m) xs i 0 within in
    let yes' : leb (slice_index xs i) m ≡ true = le-leb _ _ low in
    sym (rw yes' at step) ∙ left

pub at_most_stops : (m : ℕ) (xs : List ℕ) (i : ℕ) → i < length xs → m < slice_index xs i → at_most m (drop i xs) ≡ at_most m xs → at_most m xs ≡ false
at_most_stops m xs i within high left =
    let step : at_most m (drop i xs) ≡ (nat_le (slice_index xs i) m && at_most m (drop (i + 1) xs)) = at_drop_more (at_most m) xs i 0 within in
    let no' : leb (slice_index xs i) m ≡ false = lt-leb _ _ high in
    sym left ∙ (rw no' at step)

pub at_most_all : (m : ℕ) (xs : List ℕ) (i : ℕ) → length xs ≤ i → at_most m (drop i xs) ≡ at_most m xs → at_most m xs ≡ true
at_most_all m xs i past left = sym left ∙ at_drop_all (at_most m) xs i past

pub decides_at_most : (m : ℕ) (xs : List ℕ) → Decides (at_most m xs) (AllByRecursion (λ x. x ≤ m) xs)
decides_at_most m xs = Decides-by_and (λ x. leb x m) (λ x. x ≤ m) (at_most m) (λ x. (leb-true x m, le-leb x m)) refl (λ _ _. refl) xs

-- the same, of the elements by their places
pub decides_each : (m : ℕ) (xs : List ℕ) → Decides (at_most m xs) (All (λ x. x ≤ m) xs)
decides_each m xs = (λ all. All-from_recursion (λ x. x ≤ m) xs ((decides_at_most m xs).0 all), λ each. (decides_at_most m xs).1 (recursion_from_All (λ x. x ≤ m) xs each))

pub at_most_get_or : (m : ℕ) (xs : List ℕ) (i : ℕ) → at_most m xs ≡ true → i < length xs → slice_index xs i ≤ m
at_most_get_or m xs i all within = All-get_or (λ x. x ≤ m) xs i 0 within ((decides_at_most m xs).0 all)
