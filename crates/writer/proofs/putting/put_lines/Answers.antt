use Rattle.std.proofs.Common.{arith, rules}
use Rattle.text.proofs.Pastes.{with_more}
use Rattle.writer.proofs.Rows.{lines_next}
use Rattle.writer.proofs.putting.put_lines.Goals as goal

pub loop-row-preserved : goal.loop-row-preserved
loop-row-preserved g c =
    let next = lines_next g.E.Stands.stands c.args.rows.now c.loop-row.row-index _ _ c.loop-row-test.true (search rules) c.as_entry.ensures in
    grind (arith, with_more, next)
