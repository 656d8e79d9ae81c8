use Rattle.std.proofs.Common.{arith}
use Rattle.operand_orders.specs.reading.Touches.{WaitsAt}
use Rattle.operand_orders.specs.reading.Views.{solved}
use Rattle.operand_orders.proofs.Touching.{marks_more, marks_all, state_below}
use Rattle.operand_orders.proofs.touches.all_waits.Goals as goal

pub loop-edge-preserved : goal.loop-edge-preserved
loop-edge-preserved c =
    marks_more (WaitsAt (solved c.args.view)) c.loop-edge.edge c.loop-edge.marks.items c.push.new.self.items
    c.waits_at.result c.loop-edge.invariant c.in_ok-push.ensures.items c.waits_at.ensures

pub returns : goal.returns
returns c =
    marks_all (WaitsAt (solved c.args.view)) c.loop-edge.edge c.loop-edge.marks.items c.loop-edge.invariant
    (λ k le h. let below = state_below c.args.view c.requires.indexed k _ h.state h.has in absurd (omega (
      arith,
      le,
      below,
    )))
