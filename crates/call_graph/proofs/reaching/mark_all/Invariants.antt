use Rattle.std.proofs.Common.{take}
use Rattle.call_graph.specs.Reaching.{HasMarked}
use Rattle.call_graph.proofs.reaching.mark_all.Given as goal

abbrev pub invariant-loop-g : goal.invariant-loop-g
invariant-loop-g l = HasMarked (take l.g-index l.callees) l.initial.marks.items l.marks.items l.initial.waiting.items l.waiting.items
