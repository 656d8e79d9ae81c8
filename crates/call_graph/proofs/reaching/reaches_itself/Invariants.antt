use Rattle.std.proofs.Common.{◌+◌, length}
use Rattle.call_graph.specs.Graphs.{lists}
use Rattle.call_graph.specs.Reaching.{IsMarking, unmarked}
use Rattle.call_graph.proofs.reaching.reaches_itself.Given as goal

abbrev pub invariant-loop-g : goal.invariant-loop-g
invariant-loop-g l = IsMarking (lists l.calls) l.f l.marks.items l.waiting.items

abbrev pub decreases-loop-g : goal.decreases-loop-g
decreases-loop-g l = unmarked l.marks.items + length l.waiting.items
