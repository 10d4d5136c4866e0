use Rattle.std.proofs.Common.{rules}
use Rattle.book.specs.View.{view}
use Rattle.book.proofs.Keeps.{keeps_bilateral}
use Rattle.book.proofs.state.Book.bilateral.Goals as goal

pub invariant_of-self : goal.invariant_of-self
invariant_of-self c = let k = keeps_bilateral (view c.args.self.now) in search (rules, k)
