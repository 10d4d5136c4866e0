use Rattle.std.proofs.Common.{◌≡◌, length, sym, ◌∙◌, rules}
use Rattle.standing.specs.View.{entries_of}
use Rattle.book.specs.View.{view}
use Rattle.book.proofs.Keeps.{keeps_zone}
use Rattle.book.proofs.state.Book.zone.Goals as goal

pub invariant_of-self : goal.invariant_of-self
invariant_of-self c =
    let passed = sym c.test_stage.ensures ∙ c.in_ok-test_stage.was in
    let twelve : length c.args.zone.rents ≡ 12 = search rules in
    let held = keeps_zone (view c.args.self.now) c.enter_zone.result (entries_of c.enter_zone.new.self) c.args.ticket.now.month c.args.zone.price c.args.zone.rents c.in_ok-test_stage.field-0 twelve passed c.enter_zone.ensures c.args.self.now.held in
    record { held = held }
