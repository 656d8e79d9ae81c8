-- The operation of an edge, as it is looked up in graphs.
use Rattle.std.specs.Prelude.{ℕ, List, slice_get, Option, Some, None}
use Rattle.flow_graph.specs.declared.graphs.Graph.{Graph}
use Rattle.flow_graph.specs.declared.graphs.Edge.{Edge}
use Rattle.flow_graph.specs.declared.operations.Operation.{Operation}
use Rattle.flow_graph.specs.declared.operations.Operation.TheVariants as Op
use Rattle.alarm_contexts.specs.declared.alarm_context.ContextEdge.{ContextEdge}

abbrev pub or_skip : Option Edge → Operation
or_skip None = Op.Skip
or_skip (Some e) = e.op

abbrev pub in_graph : ℕ → Option Graph → Operation
in_graph k None = Op.Skip
in_graph k (Some g) = or_skip (slice_get g.edges.items k)

abbrev pub in_graphs : List Graph → Option ContextEdge → Operation
in_graphs graphs None = Op.Skip
in_graphs graphs (Some e) = in_graph e.edge (slice_get graphs e.body)
