use Rattle.region_cells.specs.reading.Marks.{HasMarkedFrom}
use Rattle.region_cells.proofs.marks.mark_region.Given as goal

abbrev pub invariant-loop-node : goal.invariant-loop-node
invariant-loop-node l = HasMarkedFrom l.graph.edges.items l.objects l.head l.node l.initial.marks.items l.marks.items
