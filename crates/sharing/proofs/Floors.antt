-- The laws of division rounded down. Assumes nothing.
use Rattle.std.proofs.Common.{◌≡◌, ℕ, zero, suc, ◌-◌, ◌*◌, ◌%◌, ◌^◌, ◌<◌, ◌≤◌, ℤ, pos, negsuc, ◌+ℤ◌, ◌*ℤ◌, nat_abs, ◌≤ℤ◌, ◌<ℤ◌, refl, ap, mod-lt, div-le_self, arith, w32, w64, SFits}
use native.Mathlib.Nat.{zero-div}
use borrow.Author.Differences.{ints}
use Rattle.std.proofs.lemmas.Nat.{mul-le}
use Rattle.sharing.specs.Floor.{floor_div, Floored, Near}

-- what is left of a division that rounds down
pub rest : (a b : ℤ) → pos 0 <ℤ b → (r : ℕ) × ((a ≡ floor_div a b *ℤ b +ℤ pos r) × (pos r <ℤ b))
rest a (negsuc b) h = absurd (omega (arith, ints))
rest a (pos zero) h = absurd (omega (arith, ints))
rest (pos a) (pos (suc b)) h =
    let k : 0 < suc b = omega arith in
    (a % suc b, (omega (arith, ints, mod-lt a k), omega (arith, ints, mod-lt a k)))
rest (negsuc a) (pos (suc b)) h =
    let k : 0 < suc b = omega arith in
    (suc b - 1 - a % suc b, (omega (arith, ints, mod-lt a k), omega (arith, ints, mod-lt a k)))

pub floored : (a b : ℤ) → pos 0 <ℤ b → Floored a b (floor_div a b)
floored a b h = let r = rest a b h in record { least = omega (arith, ints, r.1.0); below = omega (arith, ints, r.1.0, r.1.1) }

pub floor_near : (a b : ℤ) → pos 0 <ℤ b → Near a b (floor_div a b)
floor_near a b h = let f = floored a b h in record { above = omega (arith, ints, f.least); below = f.below }

pub floor_nil : (t : ℤ) → floor_div (pos 0) t ≡ pos 0
floor_nil (negsuc b) = refl
floor_nil (pos zero) = refl
floor_nil (pos (suc b)) = ap pos (zero-div (suc b))

pub floor_none : (a t : ℤ) → t ≤ℤ pos 0 → floor_div a t ≡ pos 0
floor_none a (negsuc b) h = refl
floor_none a (pos zero) h = refl
floor_none a (pos (suc b)) h = absurd (omega (arith, ints))

-- to divide makes no number larger
pub floor_within : (m : ℕ) (a b : ℤ) → nat_abs a ≤ m → nat_abs (floor_div a b) ≤ m
floor_within m a (negsuc b) h = omega arith
floor_within m a (pos zero) h = omega arith
floor_within m (pos a) (pos (suc b)) h = omega (arith, div-le_self a (suc b))
floor_within m (negsuc a) (pos (suc b)) h = omega (arith, div-le_self a (suc b))

pub size_product : (a b : ℤ) → nat_abs (a *ℤ b) ≡ nat_abs a * nat_abs b
size_product (pos a) (pos b) = refl
size_product (pos a) (negsuc b) = omega (arith, ints)
size_product (negsuc a) (pos b) = omega (arith, ints)
size_product (negsuc a) (negsuc b) = refl

pub product_within : (a b : ℤ) → SFits w64 a → SFits w32 b → nat_abs (a *ℤ b) ≤ 2 ^ 94
product_within a b f g =
    let p : nat_abs a ≤ 2 ^ 63 = omega (arith, ints) in
    let q : nat_abs b ≤ 2 ^ 31 = omega (arith, ints) in
    omega (arith, size_product a b, mul-le (nat_abs a) (nat_abs b) (2 ^ 63) (2 ^ 31) p q)
