use Rattle.std.proofs.Common.{◌≡◌, rules}
use Rattle.rules.specs.declared.rows.Zone.{Zone}
use Rattle.rules.specs.Ledger.{price_of}
use Rattle.payments.proofs.Entries.{of_zone}
use Rattle.payments.proofs.account.Account.price.Goals as goal

pub returns-clause-value : goal.returns-clause-value
unfolding price_of
returns-clause-value c = of_zone (λ (z : Zone). c.map_or.result ≡ z.price) _ c.zone.result c.zone.ensures.found (search rules)
