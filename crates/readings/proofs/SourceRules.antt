-- The rules of the two sources. Assumes nothing.
use Rattle.std.proofs.Common.{◌≡◌, ℕ, ◌*◌, ◌<◌, ◌≤◌, true, false, List, length, take, refl, mul-le-mul_right, arith}
use Rattle.std.proofs.lemmas.List.{take-take, get_or-take, length-take-le}
use Rattle.std.proofs.lemmas.List.Elements.{All-take, All-from_get_or}
use Rattle.std.proofs.lemmas.Bool.{and_parts, and_from, le-leb, eqb-true, eq-eqb}
use Rattle.readings.specs.Table.{Table, Applies}
use Rattle.readings.specs.Rules.{first_at_most, in_range}
use Rattle.readings.specs.Sources.{published_of, published_covers, hourly_of, hourly_covers, asked}
use Rattle.readings.specs.AtMost.{decides_each}
use Rattle.readings.specs.Ranges.{in_range_tells, first_at_most_length, first_at_most_get_or}
use Rattle.readings.specs.Theorems.{FirstAtMost, PublishedRule, HourlyRule}

-- fewer of the first numbers exist and are at most m too
first_at_most_falls : (xs : List ℕ) (n k m : ℕ) → k ≤ n → first_at_most xs n m ≡ true → first_at_most xs k m ≡ true
first_at_most_falls xs n k m low e =
    let long = first_at_most_length xs n m e in
    let short : k ≤ length xs = omega arith in
    let firsts = (decides_each m (take n xs)).0 (and_parts _ _ e).1 in
    let fewer = All-take (λ x. x ≤ m) k (take n xs) firsts in
    and_from _ _ (le-leb k (length xs) short) ((decides_each m (take k xs)).1 (rw (take-take k n xs low) at fewer))

in_range_from : (t : Table) (n r q h : ℕ) → Applies t n r q h → in_range r q h ≡ true
in_range_from t n r q h a =
    and_from _ _ (le-leb 1 r a.r_low) (and_from _ _ (le-leb 1 q a.q_low) (and_from _ _ (le-leb q 200000 a.q_high) (and_from _ _ (le-leb 1 h a.h_low) (le-leb h 24 a.h_high))))

-- where r is covered and in range, the laws apply at r resources
applies_at : (t : Table) (r q h : ℕ) → in_range r q h ≡ true → t.covers r h ≡ true → Applies t r r q h
applies_at t r q h ranges covered =
    let low = in_range_tells r q h ranges in
    record {
      covered = covered;
      r_low = low.r_low;
      r_high = omega arith;
      q_low = low.q_low;
      q_high = low.q_high;
      h_low = low.h_low;
      h_high = low.h_high;
    }

-- a source that answers by `asked` is silent elsewhere
not_asked : (t : Table) (r q h : ℕ) → ((n : ℕ) → Applies t n r q h → ⊥) → asked t.covers r q h ≡ false
not_asked t r q h none =
    elim (asked t.covers r q h) as (λ b. asked t.covers r q h ≡ b → asked t.covers r q h ≡ false) [
      | true ↦ λ e. let both = and_parts _ _ e in absurd (none r (applies_at t r q h both.0 both.1))
      | false ↦ λ e. e
    ] refl

-- the test of the first numbers tells what it says
first_from : (xs : List ℕ) (n m : ℕ) → FirstAtMost xs n m → first_at_most xs n m ≡ true
first_from xs n m f =
    let long = f.exist in
    let firsts = All-from_get_or (λ x. x ≤ m) (take n xs) 0
    (λ i low. let within : i < n = rw (length-take-le n xs long) at low in rw (get_or-take n xs i 0 within) (f.most i within)) in
    and_from _ _ (le-leb n (length xs) long) ((decides_each m (take n xs)).1 firsts)

first_tells : (xs : List ℕ) (n m : ℕ) → first_at_most xs n m ≡ true → FirstAtMost xs n m
first_tells xs n m e = record { exist = first_at_most_length xs n m e; most = λ i low. first_at_most_get_or xs n m i e low }

pub published_rule : (scores : List ℕ) → PublishedRule scores
published_rule scores =
    let t = published_of scores in
    let asks : (n r q h : ℕ) → Applies t n r q h → asked (published_covers scores) r q h ≡ true =
    λ n r q h a. and_from _ _ (in_range_from t n r q h a) (first_at_most_falls scores n r 10000 a.r_high a.covered) in
    record {
      covered = λ n h f. first_from scores n 10000 f;
      only = λ n h e. first_tells scores n 10000 e;
      score = λ n r q h a. let yes' = asks n r q h a in rw yes';
      weight = λ n r q h a. let yes' = asks n r q h a in rw yes';
      silent = λ r q h none. let no' = not_asked t r q h none in (rw no', rw no');
    }

pub hourly_rule : (readings : List ℕ) (made : ℕ) → HourlyRule readings made
hourly_rule readings made =
    let t = hourly_of readings made in
    let asks : (n r q h : ℕ) → Applies t n r q h → asked (hourly_covers readings made) r q h ≡ true =
    λ n r q h a.
    let both = and_parts _ _ a.covered in
    let covered = first_at_most_falls readings (n * h) (r * h) 200000 (mul-le-mul_right h a.r_high) both.1 in
    and_from _ _ (in_range_from t n r q h a) (and_from _ _ both.0 covered) in
    record {
      covered = λ n h e f. and_from _ _ (eq-eqb made h e) (first_from readings (n * h) 200000 f);
      only = λ n h e. let both = and_parts _ _ e in (eqb-true made h both.0, first_tells readings (n * h) 200000 both.1);
      score = λ n r q h a. let yes' = asks n r q h a in rw yes';
      weight = λ n r q h a. let yes' = asks n r q h a in rw yes';
      silent = λ r q h none. let no' = not_asked t r q h none in (rw no', rw no');
    }
