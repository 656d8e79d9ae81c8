use Rattle.operand_orders.proofs.Ranges.{within_is}
use Rattle.operand_orders.proofs.accesses.Accesses.within.Goals as goal

pub returns : goal.returns
returns c = λ p.
    within_is c.deref.result.now c.between.result.now c.args.self.now.by_edge.items c.deref.ensures.value p c.args.span
    (c.between.ensures p)
