-- Edges between the nodes of a graph.
use Rattle.std.specs.Prelude.{ℕ, ◌<◌, All}
use Rattle.flow_graph.specs.Graphs.{Edges}

-- every edge joins nodes below this number
abbrev pub AreInRange : Edges → ℕ → Type 0
AreInRange g nodes = All (λ e. (e.from < nodes) × (e.to < nodes)) g
