use Rattle.std.proofs.Common.{◌≡◌, map, take}
use Rattle.text.specs.Buffer.{with_text}
use Rattle.sheet.specs.Sheets.{lines}
use Rattle.writer.proofs.putting.put_lines.Given as goal

abbrev pub invariant-loop-row : goal.invariant-loop-row
invariant-loop-row g l = l.w ≡ with_text (lines (map g.E.Stands.stands (take l.row-index l.rows))) l.initial.w
