-- What the tests of a question tell. Assumes nothing.
use Rattle.std.specs.Prelude.{◌≡◌, ℕ, ◌<◌, ◌≤◌, true, List, length, take, slice_index}
use Rattle.std.proofs.lemmas.List.{length-take-le, get_or-take}
use Rattle.std.proofs.lemmas.Bool.{and_parts, leb-true}
use Rattle.readings.specs.Rules.{first_at_most, in_range}
use Rattle.readings.specs.AtMost.{at_most_get_or}

pub record InRange (r q h : ℕ) : Type 0 where
  pub r_low : 1 ≤ r
  pub q_low : 1 ≤ q
  pub q_high : q ≤ 200000
  pub h_low : 1 ≤ h
  pub h_high : h ≤ 24

pub in_range_tells : (r q h : ℕ) → in_range r q h ≡ true → InRange r q h
in_range_tells r q h e =
    let a = and_parts _ _ e in
    let b = and_parts _ _ a.1 in
    let c = and_parts _ _ b.1 in
    let d = and_parts _ _ c.1 in
    record {
      r_low = leb-true _ _ a.0;
      q_low = leb-true _ _ b.0;
      q_high = leb-true _ _ c.0;
      h_low = leb-true _ _ d.0;
      h_high = leb-true _ _ d.1;
    }

-- where the first n numbers are at most m, so is each of them
pub first_at_most_length : (xs : List ℕ) (n m : ℕ) → first_at_most xs n m ≡ true → n ≤ length xs
first_at_most_length xs n m e = leb-true _ _ (and_parts _ _ e).0

pub first_at_most_get_or : (xs : List ℕ) (n m i : ℕ) → first_at_most xs n m ≡ true → i < n → slice_index xs i ≤ m
first_at_most_get_or xs n m i e low =
    let long = first_at_most_length xs n m e in
    let inside : i < length (take n xs) = rw (length-take-le n xs long) low in
    let here = at_most_get_or m (take n xs) i (and_parts _ _ e).1 inside in
    rw (get_or-take n xs i 0 low) at here
