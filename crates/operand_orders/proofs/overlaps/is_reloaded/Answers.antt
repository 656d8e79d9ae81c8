use Rattle.operand_orders.proofs.Pairing.{reloaded_is}
use Rattle.operand_orders.proofs.overlaps.is_reloaded.Goals as goal

pub returns : goal.returns
returns c =
    let same = reloaded_is c.args.touches.now c.args.load c.args.right c.of_edge.result.now c.of_edge.ensures in
    (λ t. same.0 (c.are_touched.ensures.0 t), λ d. c.are_touched.ensures.1 (same.1 d))
