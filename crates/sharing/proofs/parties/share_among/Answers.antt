use Rattle.std.proofs.Common.{◌≡◌, map, get_or, set, sym, ap, ◌∙◌, subst, arith, w64, SFits, to_z, of_z}
use borrow.Author.Differences.{ints}
use Rattle.std.proofs.lemmas.Int.{to_z-of_z}
use Rattle.sharing.specs.Shares.{sum_z, portion}
use Rattle.sharing.specs.Fair.{Shared}
use Rattle.sharing.proofs.Takes.{turn, ends, left_fits}
use Rattle.std.proofs.lemmas.List.{length-map}
use Rattle.sharing.proofs.parties.share_among.Goals as goal

pub loop-p-preserved : goal.loop-p-preserved
loop-p-preserved g c =
    let a = to_z w64 (of_z w64 c.args.amount) in
    let w = g.P.Party.weighs in
    let give = g.P.Party.given in
    let ps = c.args.parties.now in
    let qs = c.loop-p.parties in
    let i = c.loop-p.p-index in
    let x = c.p-item.result in
    let part = c.hand_out-left.result in
    let ft : SFits w64 c.total_weight-total.result = omega (arith, ints) in
    let total : to_z w64 (of_z w64 c.total_weight-total.result) ≡ sum_z (map w ps) = to_z-of_z w64 _ ft ∙ c.total_weight-total.ensures.sum in
    let value : part ≡ portion a (to_z w64 (of_z w64 c.total_weight-total.result)) (w (get_or qs i x)) = c.hand_out-left.ensures.value in
    let is : part ≡ portion a (sum_z (map w ps)) (w x) =
    value ∙ ap (λ t. portion a t (w (get_or qs i x))) total ∙ ap (λ y. portion a (sum_z (map w ps)) (w y)) (sym c.p-item.is) in
    let t = turn give w a ps qs i x part c.loop-p.left
    c.loop-p-test.true c.loop-p.invariant.1 (sym c.loop-p.left-is ∙ c.loop-p.invariant.2) c.p-item.is is in
    let took : c.hand_out-left.new.party ≡ give x part = cc in
    (omega arith, ap (set qs i) took ∙ t.0, omega (arith, ints, t.1), omega (arith, ints))

end : (g : _) (c : goal.After-loop-p g)
    → Shared g.P.Party.weighs g.P.Party.took g.P.Party.given c.args.amount c.args.parties.now c.loop-p.parties c.loop-p.left
end g c =
    ends g.P.Party.given g.P.Party.weighs g.P.Party.took g.met.P.Party.takes g.met.P.Party.keeps
    (to_z w64 (of_z w64 c.args.amount)) c.args.amount c.args.parties.now c.loop-p.parties c.loop-p.p-index c.loop-p.left
    (to_z-of_z w64 c.args.amount c.ranges.amount) c.loop-p-test.false c.loop-p.invariant.1 (sym c.loop-p.left-is ∙ c.loop-p.invariant.2)

fits : (g : _) (c : goal.After-loop-p g) → SFits w64 c.loop-p.left
fits g c =
    left_fits _ _ _ _ (end g c).fair (omega (arith, length-map c.args.parties.now g.P.Party.weighs)) c.ranges.amount

pub overflow_cast-result : goal.overflow_cast-result
overflow_cast-result g c = omega (arith, ints, fits g c)

pub returns : goal.returns
returns g c =
    let f = fits g c in
    let P = Shared g.P.Party.weighs g.P.Party.took g.P.Party.given c.args.amount c.args.parties.now c.loop-p.parties in
    subst P (omega (arith, ints)) (end g c)
