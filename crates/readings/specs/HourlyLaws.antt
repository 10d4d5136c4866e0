-- The laws of the hourly readings. Assumes nothing.
use Rattle.std.specs.Prelude.{◌≡◌, ℕ, ◌+◌, ◌-◌, ◌*◌, ◌≤◌, min, true, false, List, length, take, drop, sum_by, sum, refl}
use Rattle.std.proofs.Common.{sym, ap, ◌∙◌, arith, mul-le-mul, mul-le-mul_right, add-mul, mul_comm}
use Rattle.std.proofs.Math.Nat.{min-le_right}
use Rattle.std.specs.List.{AllByRecursion}
use Rattle.std.proofs.lemmas.List.{length-take, drop-take}
use Rattle.std.proofs.ByRecursion.{All-drop, All-from_get_or, sum_by_le}
use Rattle.std.proofs.lemmas.Bool.{and_parts}
use Rattle.readings.specs.Table.{Answered, Lawful}
use Rattle.readings.specs.Rules.{first_at_most, in_range}
use Rattle.readings.specs.Sources.{hourly_of, hourly_covers, hours_of, asked}
use Rattle.readings.specs.AtMost.{decides_at_most}
use Rattle.readings.specs.Ranges.{in_range_tells}

-- the readings of resource r end with the first r * h
pub up_to_own : (r h : ℕ) → 1 ≤ r → (r - 1) * h + h ≡ r * h
up_to_own r h low = sym (ap (λ k. k * h) (omega arith) ∙ add-mul (r - 1) 1 h ∙ omega arith)

pub hours_all : (xs : List ℕ) (r h m : ℕ) → 1 ≤ r → first_at_most xs (r * h) m ≡ true → AllByRecursion (λ x. x ≤ m) (hours_of xs r h)
hours_all xs r h m low e =
    let firsts = (decides_at_most m (take (r * h) xs)).0 (and_parts _ _ e).1 in
    let own : drop ((r - 1) * h) (take (r * h) xs) ≡ hours_of xs r h =
    ap (λ k. drop ((r - 1) * h) (take k xs)) (sym (up_to_own r h low)) ∙ drop-take ((r - 1) * h) h xs in
    rw own at (All-drop (λ x. x ≤ m) ((r - 1) * h) (take (r * h) xs) firsts)

pub hours_length : (xs : List ℕ) (r h : ℕ) → length (hours_of xs r h) ≤ h
hours_length xs r h = simp length-take (omega arith)

hours_sum : (f : ℕ → ℕ) (xs : List ℕ) (r h m : ℕ) → AllByRecursion (λ x. f x ≤ m) (hours_of xs r h) → sum_by f (hours_of xs r h) ≤ m * h
hours_sum f xs r h m low =
    omega (arith, sum_by_le f m (hours_of xs r h) low, mul-le-mul_right m (hours_length xs r h), mul_comm h m)

pub kept_most : (xs : List ℕ) (r q h : ℕ) → sum_by (λ x. min x q) (hours_of xs r h) ≤ q * h
kept_most xs r q h = hours_sum (λ x. min x q) xs r h q (All-from_get_or (λ x. min x q ≤ q) _ 0 (λ i _. min-le_right _ q))

pub weight_most : (xs : List ℕ) (r h : ℕ) → 1 ≤ r → first_at_most xs (r * h) 200000 ≡ true → sum (hours_of xs r h) ≤ 200000 * h
weight_most xs r h low e = hours_sum (λ x. x) xs r h 200000 (hours_all xs r h 200000 low e)

-- the product of position and hours
pub due_bounds : (r q h : ℕ) → in_range r q h ≡ true → (1 ≤ q * h) × (q * h ≤ 4800000)
due_bounds r q h e =
    let low = in_range_tells r q h e in
    (omega (arith, mul-le-mul low.q_low low.h_low), omega (arith, mul-le-mul low.q_high low.h_high))

pub hourly_lawful : (readings : List ℕ) (made : ℕ) → Lawful (hourly_of readings made)
hourly_lawful readings made n r q h at =
    elim (asked (hourly_covers readings made) r q h) as (λ b. asked (hourly_covers readings made) r q h ≡ b → Answered (hourly_of readings made) r q h) [
      | true ↦ λ e.
          let both = and_parts _ _ e in
          let due = due_bounds r q h both.0 in
          record {
            due_low = rw e due.0;
            due_high = rw e due.1;
            kept_high = rw e (kept_most readings r q h);
            weight_high = rw e (weight_most readings r h at.r_low (and_parts _ _ both.1).1);
          }
      | false ↦ λ e. record {
        due_low = rw e (omega arith);
        due_high = rw e (omega arith);
        kept_high = rw e (omega arith);
        weight_high = rw e (omega arith);
      }
    ] refl
