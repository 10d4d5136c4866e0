use Rattle.std.proofs.Common.{◌≡◌, ◌^◌, ◌≤◌, ◌*ℤ◌, nat_abs, arith, SFits}
use borrow.Author.Differences.{ints}
use mir.Syntax.{w128}
use Rattle.std.proofs.lemmas.Int.{to_z-of_z}
use Rattle.sharing.specs.Shares.{portion}
use Rattle.sharing.proofs.Floors.{floor_within, product_within}
use Rattle.sharing.proofs.parties.portion_of.Goals as goal

pub returns : goal.returns
returns c =
    let a = c.args.amount in
    let t = c.args.total in
    let w = c.args.weight in
    let fa = c.ranges.amount in
    let ft = c.ranges.total in
    let fw = c.ranges.weight in
    let m : nat_abs (a *ℤ w) ≤ 2 ^ 94 = product_within a w fa fw in
    let ga : SFits w128 a = omega (arith, ints) in
    let gt : SFits w128 t = omega (arith, ints) in
    let gw : SFits w128 w = omega (arith, ints) in
    let gm : SFits w128 (a *ℤ w) = omega (arith, ints) in
    let e : c.floor_div.result ≡ portion a t w = grind (arith, to_z-of_z) in
    let k : nat_abs (portion a t w) ≤ 2 ^ 94 = floor_within (2 ^ 94) (a *ℤ w) t m in
    record { value = omega (arith, ints); low = omega (arith, ints); high = omega (arith, ints) }
