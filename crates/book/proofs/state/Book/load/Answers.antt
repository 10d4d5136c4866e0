use Rattle.std.proofs.Common.{sym, ◌∙◌}
use Rattle.standing.specs.View.{entries_of}
use Rattle.book.specs.View.{view}
use Rattle.book.proofs.Keeps.{keeps_load}
use Rattle.book.proofs.state.Book.load.Goals as goal

pub invariant_of-self : goal.invariant_of-self
invariant_of-self c =
    let passed = sym c.test_stage.ensures ∙ c.in_ok-test_stage.was in
    let held = keeps_load (view c.args.self.now) c.enter_load.result (entries_of c.enter_load.new.self) c.args.ticket.now.month c.args.load.zone c.args.load.obligation c.in_ok-test_stage.field-0 passed c.enter_load.ensures c.args.self.now.held in
    record { held = held }
