use Rattle.std.proofs.Common.{arith}
use Rattle.std.proofs.Math.Nat.{pow-le-pow_right}
use Rattle.text.proofs.numbers.digits.Goals as goal

pub returns-clause-few : goal.returns-clause-few
returns-clause-few c = omega (arith, pow-le-pow_right {n = 10} (omega arith) {i = c.loop-b.b-index} {j = 11} (omega arith))
