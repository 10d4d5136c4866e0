use Rattle.std.proofs.Common.{rules}
use Rattle.rules.proofs.Above.{none_above}
use Rattle.rules.proofs.position.Position.of_row.Goals as goal

pub invariant_of-result : goal.invariant_of-result
invariant_of-result c = search (rules, none_above)
