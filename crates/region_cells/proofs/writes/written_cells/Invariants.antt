use Rattle.tm_laid.specs.Layouts.{laid_tree}
use Rattle.graph_facts.specs.Lists.{numbers}
use Rattle.region_cells.proofs.Wholes.{AreWrittenBelow}
use Rattle.region_cells.proofs.writes.written_cells.Given as goal

abbrev pub invariant-loop-head : goal.invariant-loop-head
invariant-loop-head l = AreWrittenBelow (laid_tree l.laid) l.graph.edges.items l.heads l.head-index (numbers l.lists.items)
