use Rattle.operand_orders.proofs.Pairing.{overwritten_is}
use Rattle.operand_orders.proofs.overlaps.is_overwritten.Goals as goal

pub returns : goal.returns
returns c =
    let same = overwritten_is c.args.touches.now c.args.store c.args.earlier c.of_edge.result.now c.of_edge.ensures in
    (λ t. same.0 (c.are_touched_at.ensures.0 t), λ d. c.are_touched_at.ensures.1 (same.1 d))
