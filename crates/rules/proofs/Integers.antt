-- Laws of ℤ: products over sums, division that rounds down, the lesser and the greater.
use Rattle.std.proofs.Common.{◌≡◌, ℕ, zero, suc, ◌+◌, ◌*◌, ◌<◌, ◌≤◌, ℤ, pos, negsuc, ◌+ℤ◌, ◌*ℤ◌, ◌≤ℤ◌, ◌<ℤ◌, ap, arith}
use native.Mathlib.Nat.{le_of_mul-le-mul_left, lt_of_mul-lt-mul_left}
use borrow.Author.Differences.{ints, up, down, sum_is_lem, product_is, same_in}
use Rattle.std.specs.Int.{int_min}
use Rattle.sharing.proofs.Floors.{floored}
use Rattle.rules.specs.Totals.{◌÷◌}

pub distrib : (a b c : ℤ) → a *ℤ (b +ℤ c) ≡ a *ℤ b +ℤ a *ℤ c
distrib a b c = same_in (a *ℤ (b +ℤ c)) (a *ℤ b +ℤ a *ℤ c) (omega (arith, product_is a (b +ℤ c), product_is a b, product_is a c, sum_is_lem (a *ℤ b) (a *ℤ c), ap (λ (n : ℕ). up a * n) (sum_is_lem b c), ap (λ (n : ℕ). down a * n) (sum_is_lem b c)))

-- the quotient q of z by d: d · q ≤ z < d · q + d
pub floor_below : (z : ℤ) (d : ℕ) → 0 < d → (pos d *ℤ (z ÷ d)) ≤ℤ z
unfolding ◌÷◌
floor_below z d h = omega (arith, ints, (floored z (pos d) (omega (arith, ints))).least)

pub floor_above : (z : ℤ) (d : ℕ) → 0 < d → z <ℤ ((pos d *ℤ (z ÷ d)) +ℤ pos d)
unfolding ◌÷◌
floor_above z d h = omega (arith, ints, (floored z (pos d) (omega (arith, ints))).below)

pub min_z_left : (x y : ℤ) → int_min x y ≤ℤ x
min_z_left x y = grind (arith, ints)

pub min_z_right : (x y : ℤ) → int_min x y ≤ℤ y
min_z_right x y = grind (arith, ints)

pub min_z_above : (a x y : ℤ) → a ≤ℤ x → a ≤ℤ y → a ≤ℤ int_min x y
min_z_above a x y h k = grind (arith, ints)

pub product_above : (a b : ℤ) → pos 0 ≤ℤ a → pos 0 ≤ℤ b → pos 0 ≤ℤ (a *ℤ b)
product_above (pos a) (pos b) h k = omega (arith, ints)
product_above (pos a) (negsuc b) h k = omega (arith, ints)
product_above (negsuc a) b h k = omega (arith, ints)

pub floor_nonneg : (z : ℤ) (d : ℕ) → pos 0 ≤ℤ z → pos 0 ≤ℤ (z ÷ d)
unfolding ◌÷◌
floor_nonneg (pos a) zero h = omega (arith, ints)
floor_nonneg (pos a) (suc d) h = omega (arith, ints)
floor_nonneg (negsuc a) d h = absurd (omega (arith, ints))

-- a factor above nil is taken away
pub cancel_le : (d : ℕ) (x y : ℤ) → 0 < d → (pos d *ℤ x) ≤ℤ (pos d *ℤ y) → x ≤ℤ y
cancel_le d x y h k =
    let e : d * (up x + down y) ≤ d * (up y + down x) = omega (arith, ints) in
    let f : up x + down y ≤ up y + down x = le_of_mul-le-mul_left e h in
    omega (arith, ints)

pub cancel_lt : (d : ℕ) (x y : ℤ) → (pos d *ℤ x) <ℤ (pos d *ℤ y) → x <ℤ y
cancel_lt d x y k =
    let e : d * (up x + down y) < d * (up y + down x) = omega (arith, ints) in
    let f : up x + down y < up y + down x = lt_of_mul-lt-mul_left d e in
    omega (arith, ints)

pub times_comm : (a b : ℤ) → a *ℤ b ≡ b *ℤ a
times_comm a b = omega (arith, ints)

-- the three limits of a penalty are not below nil, and bound what they should
pub tenth : (x y : ℤ) → x ≤ℤ (y ÷ 10) → (pos 10 *ℤ x) ≤ℤ y
tenth x y h = omega (arith, ints, floor_below y 10 (omega arith))
