use Rattle.std.proofs.Common.{sym, ◌∙◌, ap, arith, w64, rules}
use borrow.Author.Differences.{ints}
use Rattle.std.proofs.lemmas.Int.{to_z-of_z}
use Rattle.sharing.proofs.Signed.{sum_fits, sum_is}
use Rattle.rules.specs.Payments.{exchanged}
use Rattle.rules.specs.Totals.{total}
use Rattle.payments.proofs.Sums.{total_is}
use Rattle.payments.proofs.account.Account.bilaterals.Goals as goal

pub sum-requires-clause-fits : goal.sum-requires-clause-fits
sum-requires-clause-fits c = sum_fits _ (exchanged c.args.self.now.number c.args.month) c.map.result 4000000000 128 (λ x r q k. search rules) c.trades.result.now (cc) c.trades.ensures.few (omega arith)

pub returns : goal.returns
returns c =
    let pays = exchanged c.args.self.now.number c.args.month in
    let sum = sum_is _ pays c.map.result 4000000000 128 (λ x r q k. search rules) c.trades.result.now (cc) c.trades.ensures.few c.sum.result c.sum.ensures.ran in
    record {
      value = to_z-of_z w64 _ (search rules) ∙ sum.0 ∙ sym (total_is pays c.trades.result.now) ∙ ap (total pays) c.trades.ensures.all;
      most = omega (arith, ints, sum.1);
    }
