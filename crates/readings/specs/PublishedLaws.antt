-- The laws of the published scores. Assumes nothing.
use Rattle.std.specs.Prelude.{◌≡◌, ℕ, ◌-◌, ◌*◌, ◌/◌, ◌≤◌, true, false, List, refl}
use Rattle.std.proofs.Common.{arith}
use Rattle.std.proofs.lemmas.Bool.{and_parts}
use Rattle.std.proofs.lemmas.Nat.{mul-le}
use Rattle.readings.specs.Table.{Answered, Lawful}
use Rattle.readings.specs.Sources.{published_of, published_covers, asked}
use Rattle.readings.specs.Ranges.{in_range_tells, first_at_most_get_or}

-- a score of at most ten thousand leaves the product of position, hours and score in bounds
pub scored_most : (q h s : ℕ) → q ≤ 200000 → s ≤ 10000 → q * h * s ≤ 200000 * h * 10000
scored_most q h s q_high s-high = mul-le (q * h) s (200000 * h) 10000 (mul-le q h 200000 h q_high (omega arith)) s-high

pub weight_most : (q h s : ℕ) → q ≤ 200000 → s ≤ 10000 → q * h * s / 10000 ≤ 200000 * h
weight_most q h s q_high s-high = omega (arith, scored_most q h s q_high s-high)

pub published_lawful : (scores : List ℕ) → Lawful (published_of scores)
published_lawful scores n r q h at =
    elim (asked (published_covers scores) r q h) as (λ b. asked (published_covers scores) r q h ≡ b → Answered (published_of scores) r q h) [
      | true ↦ λ e.
          let both = and_parts _ _ e in
          let low = in_range_tells r q h both.0 in
          let s-high = first_at_most_get_or scores r 10000 (r - 1) both.1 (omega arith) in
          record {
            due_low = rw e (omega arith);
            due_high = rw e (omega arith);
            kept_high = rw e s-high;
            weight_high = rw e (weight_most q h _ at.q_high s-high);
          }
      | false ↦ λ e. record {
        due_low = rw e (omega arith);
        due_high = rw e (omega arith);
        kept_high = rw e (omega arith);
        weight_high = rw e (omega arith);
      }
    ] refl
