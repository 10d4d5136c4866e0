use Rattle.std.proofs.Common.{◌≡◌, ◌^◌, ◌<◌, drop}
use Rattle.std.specs.Str.Parse.{digits_value, digits_value_after}
use Rattle.std.specs.Str.{all_ascii_digits}
use Rattle.text.proofs.numbers.digits.Given as goal

abbrev pub invariant-loop-b : goal.invariant-loop-b
invariant-loop-b l = record {
  digits : all_ascii_digits (drop l.b-index l.s) ≡ all_ascii_digits l.s;
  value : digits_value_after 10 l.n (drop l.b-index l.s) ≡ digits_value 10 l.s;
  small : l.n < 10 ^ l.b-index;
}
