use Rattle.std.proofs.Common.{not, refl, ap, rules}
use Rattle.rules.proofs.Above.{above_none}
use Rattle.rules.proofs.position.Position.row.Goals as goal

pub returns : goal.returns
returns c = record { same = refl; limits = ap not (above_none 200000 c.args.self.months (λ k h. c.args.self.limits k (search rules))) }
