use Rattle.tm_laid.specs.Layouts.{laid_tree}
use Rattle.value_ranges.specs.reading.Notes.{AreFirstCells}
use Rattle.value_ranges.proofs.cells.integer_cells.Given as goal

abbrev pub invariant-loop-cell : goal.invariant-loop-cell
invariant-loop-cell l = AreFirstCells l.grouping (laid_tree l.laid) l.cell l.cells.items
