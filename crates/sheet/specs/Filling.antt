-- A book that is filled from a sheet. Assumes nothing.
use Rattle.std.specs.Prelude.{◌≡◌}
use Rattle.book.specs.View.{view}
use Rattle.text.specs.Fields.{stand}
use Rattle.sheet.specs.declared.section.Filling.{Filling}
use Rattle.sheet.specs.Reading.{Progress}

-- how far it is filled
abbrev pub progress : Filling → Progress
progress f = (stand f.reader, view f.book.now)

-- b fills the same book as a, by the same ticket
abbrev pub Same : Filling → Filling → Type 0
Same a b = (b.book.ghost_name ≡ a.book.ghost_name) × (b.ticket ≡ a.ticket)
