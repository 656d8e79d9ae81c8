use Rattle.std.proofs.Common.{refl}
use Rattle.operand_orders.proofs.Ranges.{made_is}
use Rattle.operand_orders.proofs.accesses.accesses_of.Goals as goal

pub returns : goal.returns
returns c =
    made_is c.args.pairs.items c.in_order-by_edge.result.items c.in_ok-others.others.items c.deref.result.now
    c.in_order-by_cell.result.items c.in_order-by_edge.ensures c.deref.ensures.value c.in_ok-others.ensures
    c.in_order-by_cell.ensures _ refl refl
