use Rattle.tm_laid.specs.Layouts.{laid_tree}
use Rattle.certificate_reading.specs.reading.Shapes.{IsShapeBefore}
use Rattle.certificate_reading.proofs.shapes.shape_of.Given as goal

-- the shape of the cells so far
abbrev pub invariant-loop-cell : goal.invariant-loop-cell
invariant-loop-cell l = IsShapeBefore (laid_tree l.laid) l.task l.cell l.shape
