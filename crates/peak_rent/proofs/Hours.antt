-- How much an hour can add. Assumes nothing.
use Rattle.std.proofs.Common.{ℕ, ◌*◌, ◌/◌, ◌≤◌, arith}
use native.Mathlib.Nat.{div-le_of_le-mul}
use Rattle.std.proofs.lemmas.Nat.{mul-le}

pub product : (margin load peak : ℕ) → margin ≤ 1000000 → load ≤ peak → margin * 19 * load ≤ 2 * peak * 9500000
product margin load peak below within = omega (arith, mul-le (margin * 19) load 19000000 peak (omega arith) within)

pub rent_most : (margin load peak : ℕ) → margin ≤ 1000000 → load ≤ peak → margin * 19 * load / (2 * peak) ≤ 9500000
rent_most margin load peak below within = div-le_of_le-mul (2 * peak) (product margin load peak below within)
