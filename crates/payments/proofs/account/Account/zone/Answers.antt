use Rattle.standing.specs.View.{entries_of}
use Rattle.payments.proofs.Entries.{zone_found, zone_limits}
use Rattle.payments.proofs.account.Account.zone.Goals as goal

pub returns : goal.returns
returns c =
    let a = c.args.self.now in
    let s = entries_of a.standing.now in
    let found = zone_found s a.limits a.number a.resource.now a.stands c.zone.result c.zone.ensures in
    record { found = found; limits = zone_limits s a.limits a.number a.resource.now a.stands c.zone.result found }
