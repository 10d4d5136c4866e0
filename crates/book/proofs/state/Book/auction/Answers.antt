use Rattle.std.proofs.Common.{rules}
use Rattle.book.specs.View.{view}
use Rattle.book.proofs.Keeps.{keeps_auction}
use Rattle.book.proofs.state.Book.auction.Goals as goal

pub invariant_of-self : goal.invariant_of-self
invariant_of-self c = let k = keeps_auction (view c.args.self.now) in search (rules, k)
