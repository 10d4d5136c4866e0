-- Division of signed numbers that rounds toward minus infinity. Assumes nothing.
use Rattle.std.specs.Prelude.{zero, suc, ◌/◌, ℤ, pos, negsuc, ◌+ℤ◌, ◌*ℤ◌, ◌≤ℤ◌, ◌<ℤ◌}

-- a / b rounded down, and nil where b is not above nil. `negsuc n` is the number -(n + 1).
abbrev pub floor_div : ℤ → ℤ → ℤ
floor_div a (negsuc b) = pos 0
floor_div a (pos zero) = pos 0
floor_div (pos a) (pos (suc b)) = pos (a / suc b)
floor_div (negsuc a) (pos (suc b)) = negsuc (a / suc b)

-- q is a / b rounded down: b times q is at most a, and b times one more is above it
pub record Floored (a b q : ℤ) : Type 0 where
  pub least : (q *ℤ b) ≤ℤ a
  pub below : a <ℤ (q *ℤ b +ℤ b)

-- q is at most 1 above a / b, and less than 1 below it
pub record Near (a b q : ℤ) : Type 0 where
  pub above : (q *ℤ b) ≤ℤ (a +ℤ b)
  pub below : a <ℤ (q *ℤ b +ℤ b)
