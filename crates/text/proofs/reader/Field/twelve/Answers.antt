use Rattle.std.proofs.Common.{◌≡◌, ◌+◌, ◌-◌, ◌<◌, length, take, Ok, sym, ap, ◌∙◌, arith}
use Rattle.std.proofs.lemmas.List.{take_all, take_more_set}
use Rattle.text.specs.Numbers.{numeral}
use Rattle.text.specs.Cuts.{next}
use Rattle.text.specs.Formats.{then, or_fault}
use Rattle.text.proofs.Repeats.{numbers_on, number_read, numbers_end}
use Rattle.text.proofs.reader.Field.twelve.Goals as goal

pub loop-slot-preserved : goal.loop-slot-preserved
loop-slot-preserved c =
    let loop = c.loop-slot in
    let part = loop.part in
    let i = loop.slot-index in
    let x = c.in_ok-slot.field-0 in
    let first = c.split.ensures.first in
    let left = c.split.ensures.left in
    let less : 12 - (i + 1) ≡ 12 - i - 1 = omega arith in
    let here : i < length loop.slot-items = omega arith in
    let value : or_fault (numeral (next part.bytes.now)) part.spot part.place ≡ Ok x =
    (λ j. or_fault (numeral (sym first.bytes j)) (sym first.spot j) (sym first.place j)) ∙ sym c.in_ok-slot.ensures in
    record {
      spot = left.spot ∙ loop.invariant.spot;
      place = omega (arith, left.place, loop.invariant.place);
      numbers = (λ j. numbers_on (less j) (left.spot j) (left.place j) (left.bytes j) (take_more_set loop.slot-items i x here j))
          ∙ sym (number_read (12 - i) part.spot part.place part.bytes.now x (take i loop.slot-items) (omega arith) value)
          ∙ loop.invariant.numbers;
    }

pub returns : goal.returns
returns c =
    let loop = c.loop-slot in
    let all : take loop.slot-index loop.slot-items ≡ loop.slot-items = take_all loop.slot-index loop.slot-items (omega (arith, c.loop-slot-test.array_long)) in
    ap Ok (sym all)
    ∙ ap (λ v. then v (λ _. Ok (take loop.slot-index loop.slot-items))) c.in_ok-nothing.ensures
    ∙ sym (numbers_end (12 - loop.slot-index) loop.part.spot loop.part.place loop.part.bytes.now (take loop.slot-index loop.slot-items) (omega (arith, c.loop-slot-test.array_long)))
    ∙ loop.invariant.numbers
