use Rattle.tm_laid.specs.Layouts.{laid_tree}
use Rattle.region_cells.specs.reading.Marks.{HasMarked, IsOfSome}
use Rattle.region_cells.proofs.covers.covered.Given as goal

abbrev pub invariant-loop-object : goal.invariant-loop-object
invariant-loop-object l = HasMarked (IsOfSome (laid_tree l.laid) l.marks l.object) l.initial.covered.items l.covered.items
