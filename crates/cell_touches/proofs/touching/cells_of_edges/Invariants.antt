use Rattle.tm_laid.specs.Layouts.{laid_tree}
use Rattle.cell_touches.specs.Touches.{AreSeen}
use Rattle.cell_touches.proofs.touching.cells_of_edges.Given as goal

abbrev pub invariant-loop-number : goal.invariant-loop-number
invariant-loop-number l = AreSeen (laid_tree l.laid) l.body l.sets.items
