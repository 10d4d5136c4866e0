use Rattle.std.proofs.Common.{sym, ap, ◌∙◌, arith, rules, refl}
use Rattle.std.proofs.lemmas.Bool.{ltb-false}
use Rattle.text.specs.Buffer.{with_text}
use Rattle.text.proofs.Pastes.{wrote}
use Rattle.text.proofs.writing.write.Goals as goal

pub returns : goal.returns
unfolding with_text
returns g c =
    let long = ltb-false _ _ (sym c.is_short.ensures ∙ c.if-is_short.false) in
    let buffer = ap (λ w. w.out.ghost_name) c.put.ensures in
    wrote _ _ c.put.ensures refl (omega (arith, long, c.text_len.ensures)) (omega arith) (search rules)
