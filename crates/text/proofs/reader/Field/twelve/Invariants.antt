use Rattle.std.proofs.Common.{◌≡◌, ◌+◌, ◌-◌, take}
use Rattle.text.specs.Formats.{numbers_of}
use Rattle.text.proofs.Repeats.{numbers_on}
use Rattle.text.proofs.reader.Field.twelve.Given as goal

abbrev pub invariant-loop-slot : goal.invariant-loop-slot
invariant-loop-slot l = record {
  spot : l.part.spot ≡ l.self.spot;
  place : l.part.place ≡ l.self.place + l.slot-index;
  numbers : numbers_on (12 - l.slot-index) l.part.spot l.part.place l.part.bytes.now (take l.slot-index l.slot-items) ≡ numbers_of 12 l.self.spot l.self.place l.self.bytes.now;
}
