use Rattle.std.proofs.Common.{arith}
use Rattle.tm_laid.specs.Layouts.{laid_tree}
use Rattle.certificate_reading.proofs.ShapesMade.{shape_is}
use Rattle.certificate_reading.proofs.shapes.shape_of.Goals as goal

pub loop-cell-init : goal.loop-cell-init
loop-cell-init c = c.new-shape.ensures c.args.task

pub returns : goal.returns
returns c =
    shape_is (laid_tree c.args.laid.now) c.args.task c.loop-cell.cell c.loop-cell.shape (omega arith) c.loop-cell.invariant
