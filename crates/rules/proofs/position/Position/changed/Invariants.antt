use Rattle.rules.proofs.Months.{Half}
use Rattle.rules.proofs.position.Position.changed.Given as goal

-- the months below k are changed
abbrev pub invariant-loop-k : goal.invariant-loop-k
invariant-loop-k l = Half l.k l.change l.fn.self.months l.months
