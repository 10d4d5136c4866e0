use Rattle.std.proofs.Common.{◌≡◌, ◌+◌, ◌≤◌, length, vec_items}
use Rattle.std.specs.Iterator.Adapters.{enumerate_source, enumerate_count}
use Rattle.rent_input.specs.Months.{hours_from}
use Rattle.rent_input.proofs.Hours.{prefixed}
use Rattle.rent_input.proofs.month.read_hours.Given as goal

abbrev pub invariant-loop-before : goal.invariant-loop-before
invariant-loop-before l = record {
  hours : prefixed (vec_items l.hours) (hours_from (enumerate_count l.before-iterator + 2) (enumerate_source l.before-iterator)) ≡ hours_from 2 l.fn.lines;
  few : enumerate_count l.before-iterator + length (enumerate_source l.before-iterator) ≤ length l.fn.lines;
}
