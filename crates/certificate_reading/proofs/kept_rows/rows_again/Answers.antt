use Rattle.std.proofs.Common.{subst, get_or}
use Rattle.std.specs.Prelude.{codes}
use Rattle.std.specs.Vec.Iter.{into_iter_items}
use Rattle.tm_laid.specs.Layouts.{laid_tree}
use Rattle.post_recheck.specs.state_fits.Kinds.{InExtents}
use Rattle.certificate_reading.specs.reading.KeptRows.{values_of, IsReadAgain}
use Rattle.certificate_reading.proofs.RowsOfValues.{values_more, values_stuck}
use Rattle.certificate_reading.proofs.RowsAgain.{c_is, values_pushed, rows_more, next_kept}
use Rattle.certificate_reading.proofs.kept_rows.rows_again.Goals as goal

pub returns-in-None : goal.returns-in-None
returns-in-None c =
    let laid = laid_tree c.args.laid.now in
    let cell = get_or c.args.cells.now c.loop-cell.cell-index 0 in
    values_stuck (codes "c") c_is (InExtents laid c.args.extents.now) c.args.cells.now c.requires.distinct
    c.loop-cell.cell-index c.args.text.now c.loop-cell.more.now (values_of c.loop-cell.rows.items) c.loop-cell-test.true
    c.loop-cell.invariant.far
    (subst (IsReadAgain laid c.args.extents.now cell c.loop-cell.more.now) c.in-None.is c.in_ok-row_again.ensures)

pub loop-cell-preserved : goal.loop-cell-preserved
loop-cell-preserved c =
    let laid = laid_tree c.args.laid.now in
    let extents = c.args.extents.now in
    let cell = get_or c.args.cells.now c.loop-cell.cell-index 0 in
    let found = c.in-Some.found in
    let read = subst (IsReadAgain laid extents cell c.loop-cell.more.now) c.in-Some.is c.in_ok-row_again.ensures in
    let pushed = c.in_ok-push-in-Some.ensures.items in
    record {
      far = values_more (codes "c") c_is (InExtents laid extents) c.args.cells.now c.requires.distinct
          c.loop-cell.cell-index c.args.text.now c.loop-cell.more.now found.more.now (values_of c.loop-cell.rows.items)
          (values_of c.push.new.self.items) found.row.value c.loop-cell-test.true c.loop-cell.invariant.far read.0
          (values_pushed c.loop-cell.rows.items c.push.new.self.items found.row pushed);
      rows = rows_more laid extents c.loop-cell.rows.items c.push.new.self.items found.row pushed
          c.loop-cell.invariant.rows read.1;
      left = (next_kept laid extents (into_iter_items c.loop-cell.kept_left) (into_iter_items c.next-before.new.self)
          c.next-before.result c.next-before.ensures.items c.loop-cell.invariant.left).1;
    }
