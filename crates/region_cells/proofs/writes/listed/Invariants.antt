use Rattle.tm_laid.specs.Layouts.{laid_tree}
use Rattle.region_cells.specs.reading.Marks.{AreListed}
use Rattle.region_cells.proofs.writes.listed.Given as goal

abbrev pub invariant-loop-cell : goal.invariant-loop-cell
invariant-loop-cell l = AreListed (laid_tree l.laid) l.marks l.covered l.cell l.cells.items
