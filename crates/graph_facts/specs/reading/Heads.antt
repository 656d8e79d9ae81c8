-- For each node the last one from which an edge leads back to it.
use Rattle.std.specs.Prelude.{◌≡◌, ℕ, ◌≤◌, ◌<◌, List, length, get_or, Contains, Option, Some, None, max}
use Rattle.flow_graph.specs.declared.graphs.Edge.{Edge}
use Rattle.flow_graph.specs.Graphs.{Edges, IsBack}

-- the greater of both
abbrev pub later : Option ℕ → ℕ → ℕ
later None from = from
later (Some node) from = max node from

-- an edge leads back from this node, and none from a greater one
pub record IsLastOf (g : Edges) (node last : ℕ) : Type 0 where
  pub edge : Edge
  pub among : Contains g edge
  pub back : IsBack edge
  pub there : edge.to ≡ node
  pub from : edge.from ≡ last
  pub greatest : (e : Edge) → Contains g e → IsBack e → e.to ≡ node → e.from ≤ last

abbrev pub IsLastBack : Edges → ℕ → Option ℕ → Type 0
IsLastBack g node None = (e : Edge) → Contains g e → IsBack e → e.to ≡ node → ⊥
IsLastBack g node (Some last) = IsLastOf g node last

pub record AreLastBack (g : Edges) (nodes : ℕ) (last : List (Option ℕ)) : Type 0 where
  pub node_count : length last ≡ nodes
  pub each : (n : ℕ) → n < nodes → IsLastBack g n (get_or last n None)
