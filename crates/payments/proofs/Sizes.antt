-- How large the amounts of trades can be. Assumes nothing.
use Rattle.std.proofs.Common.{ℕ, ◌≤◌, Bool, true, false, ℤ, pos, ◌-ℤ◌, ◌*ℤ◌, nat_abs, arith}
use borrow.Author.Differences.{ints}
use Rattle.std.proofs.lemmas.Nat.{mul-le}
use Rattle.std.proofs.lemmas.Int.{unsigned_abs-mul}
use Rattle.rules.specs.Totals.{only}

pub product_small : (q : ℤ) (p : ℕ) → nat_abs q ≤ 200000 → p ≤ 20000 → nat_abs (q *ℤ pos p) ≤ 4000000000
product_small q p h k = omega (arith, unsigned_abs-mul q (pos p), mul-le (nat_abs q) p 200000 20000 h k)

-- what is gained less what is lost is no larger than the amount
pub exchange_small : (a s : Bool) (x : ℤ) → nat_abs (only a x -ℤ only s x) ≤ nat_abs x
unfolding only
exchange_small true true x = omega (arith, ints)
exchange_small true false x = omega (arith, ints)
exchange_small false true x = omega (arith, ints)
exchange_small false false x = omega (arith, ints)
