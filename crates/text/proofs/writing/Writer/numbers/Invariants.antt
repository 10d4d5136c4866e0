use Rattle.std.proofs.Common.{◌≡◌, take}
use Rattle.std.specs.List.{flat_map}
use Rattle.text.specs.Buffer.{with_text}
use Rattle.text.specs.Formats.{follows, number}
use Rattle.text.proofs.writing.Writer.numbers.Given as goal

abbrev pub invariant-loop-n : goal.invariant-loop-n
invariant-loop-n l = l.self ≡ with_text (flat_map (follows number).text (take l.n-index l.numbers)) l.initial.self
