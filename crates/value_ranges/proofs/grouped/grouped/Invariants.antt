use Rattle.tm_laid.specs.Layouts.{laid_tree}
use Rattle.value_ranges.specs.reading.CellEnds.{AreOfFirst}
use Rattle.value_ranges.proofs.grouped.grouped.Given as goal

abbrev pub invariant-loop-cell : goal.invariant-loop-cell
invariant-loop-cell l = AreOfFirst (laid_tree l.laid) l.cells l.cell l.noted.items
