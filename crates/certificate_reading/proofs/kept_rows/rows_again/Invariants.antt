use Rattle.std.proofs.Common.{take}
use Rattle.std.specs.Prelude.{codes}
use Rattle.std.specs.Vec.Iter.{into_iter_items}
use Rattle.tm_laid.specs.Layouts.{laid_tree}
use Rattle.post_recheck.specs.state_fits.Kinds.{InExtents}
use Rattle.certificate_parts.specs.Runs.{IsRun}
use Rattle.certificate_reading.specs.Rows.{value_row, FitsRow, AnyText}
use Rattle.certificate_reading.specs.reading.KeptRows.{values_of, AreKeptRows}
use Rattle.certificate_reading.proofs.kept_rows.rows_again.Given as goal

-- the lines of the cells so far, and the kept ones that are left
abbrev pub invariant-loop-cell : goal.invariant-loop-cell
invariant-loop-cell l = record {
  far : IsRun (value_row (codes "c")) (FitsRow (InExtents (laid_tree l.laid) l.extents)) AnyText
      (take l.cell-index l.cells) l.text (values_of l.rows.items) l.more;
  rows : AreKeptRows (laid_tree l.laid) l.extents l.rows.items;
  left : AreKeptRows (laid_tree l.laid) l.extents (into_iter_items l.kept_left);
}
