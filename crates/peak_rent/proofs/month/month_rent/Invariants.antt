use Rattle.std.proofs.Common.{◌≡◌, ◌*◌, ◌≤◌, take, sum_by}
use Rattle.std.specs.List.{AllPass}
use Rattle.peak_rent.specs.Rents.{in_range, hour_rent}
use Rattle.peak_rent.proofs.month.month_rent.Given as goal

abbrev pub invariant-loop-hour : goal.invariant-loop-hour
invariant-loop-hour l = record {
  passed : AllPass in_range (take l.hour-index l.hours);
  total : l.rent ≡ sum_by (hour_rent l.peak.megawatts) (take l.hour-index l.hours);
  most : l.rent ≤ 9500000 * l.hour-index;
}
