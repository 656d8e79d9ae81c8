use Rattle.region_cells.specs.reading.Marks.{HasMarked}
use Rattle.region_cells.proofs.Nodes.{IsSlotAt}
use Rattle.region_cells.proofs.marks.mark_node.Given as goal

abbrev pub invariant-loop-number : goal.invariant-loop-number
invariant-loop-number l = HasMarked (IsSlotAt l.graph.edges.items l.objects l.leaving l.number-index) l.initial.marks.items l.marks.items
