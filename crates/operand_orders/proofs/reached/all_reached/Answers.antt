use Rattle.std.proofs.Common.{◌<◌, length, arith}
use Rattle.operand_orders.specs.reading.Views.{solved}
use Rattle.access_races.proofs.Joins.{grown}
use Rattle.operand_orders.proofs.Touching.{edges_more, state_below}
use Rattle.operand_orders.proofs.reached.all_reached.Goals as goal

pub loop-edge-preserved : goal.loop-edge-preserved
loop-edge-preserved c = λ p.
    grown (c.in_ok-add_edge.ensures p) (c.loop-edge.invariant p)
    (edges_more (solved c.args.view) c.args.stores c.loop-edge.edge p)

pub returns : goal.returns
returns c = λ p. (
  λ h. ((c.loop-edge.invariant p).0 h).1,
  λ r. (c.loop-edge.invariant p).1 (
    (let below : p.first < length c.args.view.edges.now =
        state_below c.args.view c.requires.indexed p.first _ r.target.state r.target.has in omega (arith, below)),
    r,
  ),
)
