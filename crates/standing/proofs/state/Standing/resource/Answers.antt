use Rattle.std.proofs.Common.{rules}
use Rattle.rules.proofs.Stands.{within_numbered}
use Rattle.standing.proofs.state.Standing.resource.Goals as goal

pub returns-clause-limits : goal.returns-clause-limits
returns-clause-limits c = search (rules, within_numbered)
