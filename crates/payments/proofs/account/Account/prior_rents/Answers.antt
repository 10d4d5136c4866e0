use Rattle.std.proofs.Common.{◌≡◌, ◌-◌, drop, sum, rules}
use Rattle.std.specs.Option.{MatchOption}
use Rattle.payments.proofs.Entries.{prior_is}
use Rattle.payments.proofs.account.Account.prior_rents.Goals as goal

pub returns-clause-value : goal.returns-clause-value
returns-clause-value c =
    let m : MatchOption c.zone.result (c.map_or.result ≡ 0) (λ z. c.map_or.result ≡ sum (drop (c.args.rents.now.month - 1) z.rents)) = search rules in
    prior_is _ c.zone.result c.map_or.result (c.args.rents.now.month - 1) c.zone.ensures.found m
