use Rattle.std.proofs.Common.{◌+◌, length, sym, ap, ◌∙◌, arith}
use Rattle.std.specs.Iterator.Adapters.{enumerate_count}
use Rattle.rent_input.specs.Months.{hours_from}
use Rattle.rent_input.proofs.Hours.{prefixed, hour_read}
use Rattle.rent_input.proofs.month.read_hours.Goals as goal

pub loop-before-preserved : goal.loop-before-preserved
loop-before-preserved c =
    let s = c.in-Some.ensures.steps in
    let i = c.loop-before.invariant in
    record {
      hours = rw (c.in_ok-push.ensures.items) (sym (hour_read c.loop-before.hours.items (enumerate_count c.loop-before.before-iterator + 2) c.in-Some.line.now _ c.in_ok-on_line.field-0 _ (omega arith) (search arith))
          ∙ ap (λ ls. prefixed c.loop-before.hours.items (hours_from (enumerate_count c.loop-before.before-iterator + 2) ls)) (sym s.0) ∙ i.hours);
      few = omega (arith, s, ap length s.0);
    }
