use Rattle.std.proofs.Common.{◌≡◌, to_z, of_z, rules}
use mir.Syntax.{w128}
use Rattle.sharing.specs.Floor.{floor_div}
use Rattle.sharing.proofs.Floors.{floored}
use Rattle.sharing.proofs.floor.floor_div.Goals as goal

pub returns-clause-rounded : goal.returns-clause-rounded
returns-clause-rounded c h =
    let is : to_z w128 (of_z w128 c.quotient.result) ≡ floor_div c.args.a c.args.b = search rules in
    rw is (floored c.args.a c.args.b h)
