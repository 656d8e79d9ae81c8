use Rattle.std.proofs.Common.{arith}
use Rattle.slot_numbers.proofs.Lists.{own_of_entry, own_of_node}
use Rattle.slot_numbers.proofs.own_cells.own_cells.Goals as goal

pub returns-then-node-eq0 : goal.returns-then-node-eq0
returns-then-node-eq0 c = λ x.
    own_of_entry c.args.placing.now c.args.cells.now c.args.node c.if-node-eq0.true c.cells.result.now
    c.cells.ensures.same c.in_ok-counted_cells.field-0 c.in_ok-counted_cells.ensures x

pub returns : goal.returns
returns c = λ x.
    own_of_node c.args.placing.now c.args.cells.now c.args.node (omega arith) c.requires.counted c.owned.result.now
    c.owned.ensures.same c.in_ok-counted_cells-2.field-0 c.in_ok-counted_cells-2.ensures x
