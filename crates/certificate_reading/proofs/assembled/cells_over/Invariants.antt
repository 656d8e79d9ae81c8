use Rattle.std.proofs.Common.{◌≡◌, ◌^◌, drop}
use Rattle.std.specs.Vec.Iter.{into_iter_items}
use Rattle.tm_laid.specs.Layouts.{laid_tree}
use Rattle.edge_actions.specs.Layouts.{is_shared_cell}
use Rattle.certificate_reading.specs.reading.Bounds.{AreUnder}
use Rattle.certificate_reading.specs.reading.Parts.{cells_of}
use Rattle.certificate_reading.specs.reading.KeptRows.{values_of}
use Rattle.certificate_reading.proofs.PuttingOver.{put_all}
use Rattle.certificate_reading.proofs.assembled.cells_over.Given as goal

-- with the cells that are to come put over those so far, all are put over those before
abbrev pub invariant-loop-at : goal.invariant-loop-at
invariant-loop-at l = record {
  far : put_all l.cells (cells_of (is_shared_cell (laid_tree l.laid)) (drop l.at l.seen) (drop l.at (values_of l.rows))
      (into_iter_items l.pending_left) (drop l.at l.fresh) (into_iter_items l.stored_left))
      ≡ put_all l.before (cells_of (is_shared_cell (laid_tree l.laid)) l.seen (values_of l.rows) l.fn.pending.items l.fresh
      l.fn.stored.items);
  pending : AreUnder (2 ^ 16) (into_iter_items l.pending_left);
}
