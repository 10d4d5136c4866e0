use Rattle.std.proofs.Common.{◌≡◌, true, take, sum_by, pos, arith, rules}
use Rattle.std.specs.List.{list_all}
use Rattle.std.proofs.lemmas.List.{take_all}
use Rattle.std.proofs.lemmas.List.Elements.{All-more}
use Rattle.std.proofs.lemmas.List.Sums.{sum_by_more, list_all-from_AllPass}
use Rattle.peak_rent.specs.declared.hour.Hour.{Hour}
use Rattle.peak_rent.specs.Rents.{in_range, hour_rent}
use Rattle.peak_rent.proofs.month.month_rent.Goals as goal

pub loop-hour-preserved : goal.loop-hour-preserved
loop-hour-preserved c =
    let hs = c.args.hours.now in
    let i = c.loop-hour.hour-index in
    let past_end : Hour = record { price = pos 0; strike = pos 0; load = pos 0 } in
    let here = c.in_ok-rent.ensures in
    let more = sum_by_more (hour_rent c.in_ok-peak.peak.megawatts) hs i past_end c.loop-hour-test.true in
    record {
      passed = All-more (λ h. in_range h ≡ true) hs i past_end c.loop-hour-test.true c.loop-hour.invariant.passed here.0;
      total = omega (arith, more, here.1);
      most = omega (arith, here.2);
    }

pub returns-clause-value : goal.returns-clause-value
returns-clause-value c =
    let hs = c.args.hours.now in
    let whole : take c.loop-hour.hour-index hs ≡ hs = take_all _ hs c.loop-hour-test.false in
    let all : list_all in_range hs ≡ true = list_all-from_AllPass in_range hs (rw whole at c.loop-hour.invariant.passed) in
    let total : c.loop-hour.rent ≡ sum_by (hour_rent c.args.peak) hs = rw (← whole, ← c.in_ok-peak.ensures) c.loop-hour.invariant.total in
    search rules
