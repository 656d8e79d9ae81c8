use Rattle.operand_orders.proofs.Ranges.{of_edge_is}
use Rattle.operand_orders.proofs.accesses.Accesses.of_edge.Goals as goal

pub returns : goal.returns
returns c = λ p.
    of_edge_is c.deref.result.now c.between.result.now c.args.self.now.by_edge.items c.deref.ensures.value p c.args.edge
    (c.between.ensures p)
