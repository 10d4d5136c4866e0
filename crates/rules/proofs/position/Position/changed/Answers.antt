use Rattle.std.proofs.Common.{ℕ, subst, arith, rules}
use Rattle.rules.proofs.Months.{Half, half_all, month_out}
use Rattle.rules.proofs.position.Position.changed.Goals as goal

pub returns-in_err-months : goal.returns-in_err-months
returns-in_err-months c = search (rules, month_out)

pub returns : goal.returns
returns c = half_all c.args.change c.args.self.months c.loop-k.months (subst (λ (i : ℕ). Half i c.args.change c.args.self.months c.loop-k.months) (omega arith) c.loop-k.invariant)
