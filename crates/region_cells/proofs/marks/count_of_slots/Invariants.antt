use Rattle.std.proofs.Common.{length}
use Rattle.tm_laid.specs.Layouts.{laid_tree}
use Rattle.region_cells.proofs.Wholes.{AreSlotsBelow}
use Rattle.region_cells.proofs.marks.count_of_slots.Given as goal

abbrev pub invariant-loop-cell : goal.invariant-loop-cell
invariant-loop-cell l = AreSlotsBelow (laid_tree l.laid) (length l.laid.objects.items) l.cell l.count
