use Rattle.std.proofs.Common.{◌≡◌, []}
use Rattle.tm_laid.specs.Layouts.{laid_tree}
use Rattle.flow_graph.specs.Positions.{Reaches}
use Rattle.graph_positions.specs.Memories.{memory_of}
use Rattle.graph_positions.specs.Positions.{IsPositionOf}
use Rattle.graph_positions.specs.reading.Steps.{IsStepAt}
use Rattle.graph_positions.proofs.Rounds.{way}
use Rattle.graph_positions.proofs.positions.Position.drift.Given as goal

abbrev pub invariant-loop-step : goal.invariant-loop-step
invariant-loop-step l = record {
  position : IsPositionOf l.graph.edges.items l.graph.nodes l.self;
  reaches : Reaches (laid_tree l.laid) l.graph.edges.items l.initial.self.node (memory_of l.initial.self) [] l.self.node (memory_of l.self);
  used : l.self.used ≡ l.initial.self.used;
  at : IsStepAt (laid_tree l.laid) l.graph.edges.items l.self.node (memory_of l.self) l.step;
}

abbrev pub decreases-loop-step : goal.decreases-loop-step
decreases-loop-step l = way l.graph.nodes l.self.used l.self.node l.self.seen.items
