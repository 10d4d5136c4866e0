use Rattle.std.proofs.Common.{sym, ◌∙◌}
use Rattle.standing.specs.View.{entries_of}
use Rattle.book.specs.View.{view}
use Rattle.book.proofs.Keeps.{keeps_resource}
use Rattle.book.proofs.state.Book.resource.Goals as goal

pub invariant_of-self : goal.invariant_of-self
invariant_of-self c =
    let passed = sym c.test_stage.ensures ∙ c.in_ok-test_stage.was in
    let held = keeps_resource (view c.args.self.now) c.enter_resource.result (entries_of c.enter_resource.new.self) c.args.ticket.now.month c.args.offer.zone c.args.offer.letter c.args.offer.cleared c.args.offer.supplied c.in_ok-test_stage.field-0 passed c.enter_resource.ensures c.args.self.now.held in
    record { held = held }
