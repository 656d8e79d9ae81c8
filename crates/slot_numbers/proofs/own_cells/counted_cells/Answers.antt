use Rattle.std.proofs.Common.{arith}
use Rattle.slot_numbers.proofs.Lists.{counted_is}
use Rattle.slot_numbers.proofs.own_cells.counted_cells.Goals as goal

pub returns : goal.returns
returns c = λ x.
    counted_is c.args.listed.now c.args.cells.now c.loop-cell.cell-index c.loop-cell.counted.items c.from_cells.result
    (omega arith) c.loop-cell.invariant c.from_cells.ensures x
