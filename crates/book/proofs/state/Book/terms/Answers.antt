use Rattle.std.proofs.Common.{sym, ◌∙◌, arith, w64, rules}
use Rattle.std.proofs.lemmas.Int.{to_z-of_z}
use Rattle.book.specs.View.{view}
use Rattle.book.proofs.Asked.{settles, stands, month_low, month_high, terms_stay}
use Rattle.book.proofs.state.Book.terms.Goals as goal

pub invariant_of-account : goal.invariant_of-account
invariant_of-account c =
    let l = view c.args.self.now in
    record { limits = settles l c.args.self.now.held; stands = stands l c.args.resource c.in_ok-found.found (sym c.in_ok-found.ensures.same) }

pub invariant_of-rents : goal.invariant_of-rents
invariant_of-rents c =
    let l = view c.args.self.now in
    let e = sym c.test_stage.ensures ∙ c.in_ok-test_stage.was in
    record {
      amounts = ∣ tt ∣₁;
      few = omega arith;
      low = month_low l c.args.self.now.held c.args.ticket.now.month c.in_ok-test_stage.field-0 e;
      high = month_high l c.args.self.now.held c.args.ticket.now.month c.in_ok-test_stage.field-0 e;
    }

pub returns-clause-stays : goal.returns-clause-stays
returns-clause-stays c =
    terms_stay (view c.args.self.now) c.args.self.now.held c.args.ticket.now.month c.in_ok-test_stage.field-0 (sym c.test_stage.ensures ∙ c.in_ok-test_stage.was) c.args.resource _
    (to_z-of_z w64 _ (search rules) ∙ c.payment-payment.ensures.value) (to_z-of_z w64 _ (search rules) ∙ c.deduction-deduction.ensures.value)
