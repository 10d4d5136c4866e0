use Rattle.std.proofs.Common.{◌≡◌, ◌+◌, ◌-◌, ◌*◌, arith}
use Rattle.readings.specs.HourlyLaws.{weight_most}
use Rattle.readings.proofs.hourly.hours_of.Goals as goal

pub returns-clause-most : goal.returns-clause-most
returns-clause-most c =
    let cut : (c.args.resource - 1) * c.args.hours + c.args.hours - (c.args.resource - 1) * c.args.hours ≡ c.args.hours = omega arith in
    rw cut (weight_most c.args.readings.now c.args.resource c.args.hours c.requires.0 c.requires.1)
