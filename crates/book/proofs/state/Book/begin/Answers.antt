use Rattle.std.proofs.Common.{rules}
use Rattle.book.specs.View.{view}
use Rattle.book.proofs.Keeps.{keeps_begin}
use Rattle.book.proofs.state.Book.begin.Goals as goal

pub invariant_of-self : goal.invariant_of-self
invariant_of-self c = let k = keeps_begin (view c.args.self.now) in search (rules, k)
