use Rattle.standing.specs.View.{entries_of}
use Rattle.payments.proofs.Entries.{trades_bounded}
use Rattle.payments.proofs.account.Account.trades.Goals as goal

pub returns-clause-limits : goal.returns-clause-limits
returns-clause-limits c = trades_bounded (entries_of c.args.self.now.standing.now) c.args.self.now.limits c.trades.result.now c.trades.ensures.all
