use Rattle.std.proofs.Common.{◌-◌, arith, rules}
use Rattle.std.proofs.lemmas.Grind.{common_steps}
use Rattle.payments.proofs.Sums.{prior_small}
use Rattle.payments.proofs.rents.remaining_rents.Goals as goal

pub sum-requires-clause-fits : goal.sum-requires-clause-fits
sum-requires-clause-fits c =
    let small = prior_small c.args.zone.now.rents (c.args.month - 1) c.requires.limits.1 (search rules) in
    grind (arith, common_steps)

pub returns-clause-most : goal.returns-clause-most
returns-clause-most c =
    let small = prior_small c.args.zone.now.rents (c.args.month - 1) c.requires.limits.1 (search rules) in
    grind (arith, common_steps)
