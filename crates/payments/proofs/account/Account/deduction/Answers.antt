use Rattle.std.proofs.Common.{◌≡◌, true, pos, ap, ◌∙◌, w64, to_z, rules}
use borrow.Author.Differences.{ints}
use Rattle.rules.specs.declared.rows.Resource.{Resource}
use Rattle.rules.specs.Classes.{has_deduction}
use Rattle.standing.specs.View.{entries_of}
use Rattle.payments.proofs.Deducted.{deduction_is}
use Rattle.payments.proofs.account.Account.deduction.Goals as goal

pub returns-clause-value : goal.returns-clause-value
returns-clause-value c =
    let a = c.args.self.now in
    let deducted : has_deduction a.resource.now.class ≡ true = search rules in
    let fits : to_z w64 c.min.result ≡ pos c.min.result = search (rules, ints) in
    fits ∙ ap pos c.min.ensures
    ∙ deduction_is (entries_of a.standing.now) c.args.rents.now.entered.now a.number c.args.rents.now.month c.exposed-exposed.result c.price.result c.mean_rent.result
    (ap (λ (q : Resource). has_deduction q.class) a.stands ∙ deducted) c.exposed-exposed.ensures.value c.price.ensures.value c.mean_rent.ensures.value
