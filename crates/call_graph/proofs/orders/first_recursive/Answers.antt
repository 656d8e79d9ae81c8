use Rattle.tm_typed.specs.CallGraph.{calls_in}
use Rattle.call_graph.specs.Graphs.{lists}
use Rattle.call_graph.proofs.Marking.{first_found}
use Rattle.call_graph.proofs.orders.first_recursive.Goals as goal

pub returns-then-branch : goal.returns-then-branch
returns-then-branch c =
    first_found (calls_in (lists c.args.calls.now)) c.args.functions.now c.loop-f.f-index c.loop-f-test.true c.loop-f.invariant (c.in_ok-reaches_itself.ensures.0 c.if-branch.true)
