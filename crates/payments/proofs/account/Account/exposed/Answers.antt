use Rattle.std.proofs.Common.{◌∙◌, ap, pos, arith}
use Rattle.standing.specs.View.{entries_of}
use Rattle.payments.proofs.Entries.{held_most, exposed_is}
use Rattle.payments.proofs.account.Account.exposed.Goals as goal

pub returns : goal.returns
returns c =
    let a = c.args.self.now in
    let s = entries_of a.standing.now in
    record {
      value = ap pos c.above.ensures ∙ exposed_is s a.limits a.number a.resource.now a.stands c.args.month c.requires.known c.requires.month.0 c.requires.month.1;
      most = omega (arith, held_most s a.limits a.number a.resource.now a.stands c.args.month c.requires.known c.requires.month.0 c.requires.month.1);
    }
