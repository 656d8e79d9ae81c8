-- Heads with the last nodes of their regions.
use Rattle.std.specs.Prelude.{ℕ, ◌≤◌, ◌↔◌, List, map, All, Contains}
use Rattle.std.specs.List.Sorted.{IsStrictlyIncreasing}
use Rattle.flow_graph.specs.Graphs.{Edges, IsHead, IsInRegion}
use Rattle.graph_facts.specs.declared.regions.Head.{Head}

-- a head, whose region goes from it up to this last node
pub record IsHeadUpTo (g : Edges) (h : Head) : Type 0 where
  pub head : IsHead g h.node
  pub region : (n : ℕ) → IsInRegion g h.node n ↔ ((h.node ≤ n) × (n ≤ h.last))

abbrev pub nodes_of : List Head → List ℕ
nodes_of heads = map (λ h. h.node) heads

-- the heads of a graph, in rising order
pub record AreHeads (g : Edges) (heads : List Head) : Type 0 where
  pub rising : IsStrictlyIncreasing (nodes_of heads)
  pub each : All (IsHeadUpTo g) heads
  pub all : (n : ℕ) → IsHead g n → Contains (nodes_of heads) n
