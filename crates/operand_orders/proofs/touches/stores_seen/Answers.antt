use Rattle.operand_orders.specs.reading.Views.{solved}
use Rattle.operand_orders.proofs.Touching.{stores_seen_is}
use Rattle.operand_orders.proofs.touches.stores_seen.Goals as goal

pub returns : goal.returns
returns c =
    let same = stores_seen_is (solved c.args.view) c.args.edge c.args.stores.now c.requires c.of_edge.result.now
    c.of_edge.ensures in
    (λ t. same.0 (c.are_static.ensures.0 t), λ s. c.are_static.ensures.1 (same.1 s))
