use Rattle.std.proofs.Common.{◌∙◌, ◌+ℤ◌, ℤ, sym, ap, ap₂}
use Rattle.rules.specs.declared.rows.Resource.{Resource}
use Rattle.rules.specs.Ledger.{zone_of}
use Rattle.rules.specs.Rents.{mean_rent, rent_before}
use Rattle.rules.specs.Totals.{◌÷◌, total}
use Rattle.payments.proofs.account.Account.mean_rent.Goals as goal

pub returns-clause-value : goal.returns-clause-value
unfolding mean_rent ◌÷◌ zone_of
returns-clause-value c =
    let entered = c.of_zone-entered.ensures.value ∙ ap (λ (q : Resource). total (rent_before q.zone c.args.rents.now.month) c.args.rents.now.entered.now) (sym c.args.self.now.stands) in
    ap (λ (z : ℤ). z ÷ 12) (ap₂ ◌+ℤ◌ c.prior_rents.ensures.value entered)
