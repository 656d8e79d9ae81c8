-- What is asked of one edge of a graph that is configured.
use Rattle.std.specs.Prelude.{◌<◌, ℕ}
use Rattle.flow_graph.specs.declared.graphs.Edge.{Edge}
use Rattle.mutex_configs.specs.Sets.{IsOfSixteen}

-- it joins two of so many nodes, and its mutex is one of sixteen
pub record IsEdge (nodes : ℕ) (e : Edge) : Type 0 where
  pub from : e.from < nodes
  pub to : e.to < nodes
  pub mutex : IsOfSixteen e.op
