use Rattle.std.proofs.Common.{rules}
use Rattle.rules.proofs.Stands.{within_set}
use Rattle.standing.proofs.state.Standing.book_auction.Goals as goal

pub invariant_of-self : goal.invariant_of-self
invariant_of-self c = search (rules, within_set)
