use Rattle.std.proofs.Common.{◌≡◌, map, drop}
use Rattle.tm_laid.specs.Layouts.{laid_tree}
use Rattle.flow_graph.specs.Runs.{move_along, move}
use Rattle.graph_positions.specs.Memories.{memory_of}
use Rattle.graph_positions.specs.reading.Steps.{edge_at}
use Rattle.graph_positions.proofs.positions.Position.step.Given as goal

abbrev pub invariant-loop-number : goal.invariant-loop-number
invariant-loop-number l =
    move_along (laid_tree l.laid) (map (edge_at l.graph.edges.items) (drop l.number-index l.number-items)) (memory_of l.self) ≡ move (laid_tree l.laid) l.graph.edges.items l.self.node (memory_of l.self)
