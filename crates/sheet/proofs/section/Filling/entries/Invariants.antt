use Rattle.std.proofs.Common.{◌≡◌, ◌-◌}
use Rattle.sheet.specs.Filling.{progress, Same}
use Rattle.sheet.specs.Reading.{steps}
use Rattle.sheet.proofs.section.Filling.entries.Given as goal

-- what is left to read gives what there was to read
abbrev pub invariant-loop : goal.invariant-loop
invariant-loop l =
    Same l.initial.self l.self
    × (steps l.initial.self.ticket l.section (l.n - l.counter) (progress l.self) ≡ steps l.initial.self.ticket l.section l.n (progress l.initial.self))
