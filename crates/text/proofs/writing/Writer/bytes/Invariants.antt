use Rattle.std.proofs.Common.{◌≡◌, take}
use Rattle.text.specs.Buffer.{with_text}
use Rattle.text.proofs.writing.Writer.bytes.Given as goal

abbrev pub invariant-loop-b : goal.invariant-loop-b
invariant-loop-b l = l.self ≡ with_text (take l.b-index l.bytes) l.initial.self
