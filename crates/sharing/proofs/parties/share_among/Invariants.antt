use Rattle.std.proofs.Common.{◌≡◌, ◌+◌, ◌*◌, ◌^◌, ◌≤◌, map, length, take, ◌-ℤ◌, nat_abs}
use Rattle.sharing.specs.Shares.{sum_z, shares, each_takes}
use Rattle.sharing.proofs.parties.share_among.Given as goal

abbrev pub invariant-loop-p : goal.invariant-loop-p
invariant-loop-p g l =
    let ps = l.initial.parties in
    let ss = shares l.amount (map g.P.Party.weighs ps) in
    (l.p-index ≤ length ps)
    × (l.parties ≡ each_takes g.P.Party.given ps (take l.p-index ss))
    × (l.left ≡ l.amount -ℤ sum_z (take l.p-index ss))
    × (nat_abs l.left ≤ 2 ^ 63 + l.p-index * 2 ^ 94)
