use Rattle.operand_orders.specs.reading.Views.{solved}
use Rattle.operand_orders.proofs.Touching.{loads_seen_is}
use Rattle.operand_orders.proofs.touches.loads_seen.Goals as goal

pub returns : goal.returns
returns c =
    let same = loads_seen_is (solved c.args.view) c.args.edge c.args.loads.now c.requires.loads c.of_edge.result.now
    c.of_edge.ensures in
    (λ t. same.0 (c.are_static_others.ensures.0 t), λ s. c.are_static_others.ensures.1 (same.1 s))
