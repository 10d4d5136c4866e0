use Rattle.std.proofs.Common.{◌≡◌, ℕ, ◌-◌, ◌≤◌, ℤ, pos, ◌-ℤ◌, ◌*ℤ◌, sym, ap, ◌∙◌, ap₂, arith, w64, to_z, rules}
use Rattle.std.proofs.lemmas.Int.{to_z-of_z}
use Rattle.rules.specs.declared.rows.Resource.{Resource}
use borrow.Author.Differences.{ints}
use Rattle.standing.specs.View.{entries_of}
use Rattle.payments.specs.declared.account.Account.{Account}
use Rattle.payments.proofs.Entries.{resource_limits}
use Rattle.payments.proofs.account.Account.cleared_pay.Goals as goal

limits : (a : Account) → (a.resource.now.cleared ≤ 200000) × (a.resource.now.supplied ≤ a.resource.now.cleared)
limits a = resource_limits (entries_of a.standing.now) a.limits a.number a.resource.now a.stands

pub overflow_sub-bought : goal.overflow_sub-bought
overflow_sub-bought c = omega (arith, limits c.args.self.now)

pub overflow_cast-bought : goal.overflow_cast-bought
overflow_cast-bought c = omega (arith, ints, limits c.args.self.now)

pub worth-requires : goal.worth-requires
worth-requires c = (omega (arith, ints, limits c.args.self.now), c.price.ensures.most)

pub returns-clause-value : goal.returns-clause-value
returns-clause-value c =
    let a = c.args.self.now in
    let less : to_z w64 (a.resource.now.cleared - a.resource.now.supplied) ≡ pos a.resource.now.cleared -ℤ pos a.resource.now.supplied = omega (arith, ints, limits a) in
    to_z-of_z w64 _ (search rules) ∙ c.worth.ensures.value
    ∙ ap₂ (λ (z : ℤ) (p : ℕ). z *ℤ pos p) (less ∙ ap (λ (q : Resource). pos q.cleared -ℤ pos q.supplied) (sym a.stands)) c.price.ensures.value
