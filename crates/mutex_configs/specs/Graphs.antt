-- What is asked of a graph that is configured.
use Rattle.std.specs.Prelude.{◌<◌, All}
use Rattle.flow_graph.specs.declared.graphs.Edge.{Edge}
use Rattle.flow_graph.specs.declared.graphs.Graph.{Graph}
use Rattle.mutex_configs.specs.Sets.{IsOfSixteen}

-- there is a node to begin at, the edges lead from nodes to nodes, and mutexes are among sixteen
pub record IsGraph (graph : Graph) : Type 0 where
  pub entry : 0 < graph.nodes
  pub from : All (λ (e : Edge). e.from < graph.nodes) graph.edges.items
  pub to : All (λ (e : Edge). e.to < graph.nodes) graph.edges.items
  pub mutexes : All (λ (e : Edge). IsOfSixteen e.op) graph.edges.items
