use Rattle.std.proofs.Common.{rules}
use Rattle.rules.proofs.Stands.{within_push, within_replicate}
use Rattle.standing.proofs.state.Standing.enter_resource.Goals as goal

pub invariant_of-self : goal.invariant_of-self
invariant_of-self c = search (rules, within_push, within_replicate)
