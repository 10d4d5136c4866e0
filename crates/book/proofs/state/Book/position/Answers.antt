use Rattle.std.proofs.Common.{sym, ◌∙◌}
use Rattle.book.specs.View.{view}
use Rattle.book.proofs.Asked.{position_asked}
use Rattle.book.proofs.state.Book.position.Goals as goal

pub returns : goal.returns
returns c =
    position_asked (view c.args.self.now) c.args.resource c.args.month c.in_ok-found.found c.in_ok-test_month.field-0 c.args.self.now.held
    (sym c.in_ok-found.ensures.same) (sym c.test_month.ensures ∙ c.in_ok-test_month.was)
