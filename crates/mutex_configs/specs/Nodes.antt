-- The configured graph of a body: the nodes that are reached, and the copies of its edges.
use Rattle.std.specs.Prelude.{◌≡◌, ◌≢◌, ◌↔◌, ◌<◌, ◌⊎◌, ℕ, suc, ◌==◌, ◌&&◌, Bool, false, cond, List, [], ◌∷◌, ◌++◌, map}
use Rattle.std.specs.Prelude.{length, All, Option, None, Contains, AllPairs, position}
use Rattle.flow_graph.specs.declared.graphs.Edge.{Edge}
use Rattle.flow_graph.specs.declared.operations.Operation.{Operation}
use Rattle.flow_graph.specs.Graphs.{Edges, Leaves}
use Rattle.mutex_configs.specs.declared.nodes.ConfiguredNode.{ConfiguredNode}
use Rattle.mutex_configs.specs.declared.nodes.EdgeCopy.{EdgeCopy}
use Rattle.mutex_configs.specs.declared.nodes.ConfiguredGraph.{ConfiguredGraph}
use Rattle.mutex_configs.specs.Sets.{answers_of, leads_nowhere, node_after}

-- ## Nodes

-- at the entry no mutex is held, and none was found free
abbrev pub entry_node : ConfiguredNode
entry_node = record { place = 0; held = 0; found = 0 }

-- the nodes that are reached from there along the edges
pub data IsReached (g : Edges) : ConfiguredNode → Type 0 where
  at_entry : IsReached g entry_node
  along : (q : ConfiguredNode) (e : Edge) (answer : Bool) → IsReached g q → Leaves g q.place e
      → Contains (answers_of e.op) answer → leads_nowhere e.op answer q.held ≡ false
      → IsReached g (node_after e.op answer q e.to)

-- by rising place, then held set, then found set
abbrev pub IsBefore : ConfiguredNode → ConfiguredNode → Type 0
IsBefore q r =
    (q.place < r.place) ⊎ ((q.place ≡ r.place) × ((q.held < r.held) ⊎ ((q.held ≡ r.held) × (q.found < r.found))))

-- exactly the nodes that are reached, each before all those behind it
pub record AreNodes (g : Edges) (nodes : List ConfiguredNode) : Type 0 where
  pub reached : (q : ConfiguredNode) → Contains nodes q ↔ IsReached g q
  pub in_order : AllPairs IsBefore nodes

-- more nodes are reached than this number
pub record HasMoreNodes (g : Edges) (number : ℕ) : Type 0 where
  pub nodes : List ConfiguredNode
  pub different : AllPairs (λ q r. q ≢ r) nodes
  pub reached : All (IsReached g) nodes
  pub more : number < length nodes

-- ## Copies

abbrev pub is_same_node : ConfiguredNode → ConfiguredNode → Bool
is_same_node q r = (q.place == r.place) && ((q.held == r.held) && (q.found == r.found))

-- the number of the node to which a copy leads
abbrev pub target : List ConfiguredNode → Operation → Bool → ConfiguredNode → ℕ → Option ℕ
target nodes op answer q place = cond (leads_nowhere op answer q.held) None
    (position (is_same_node (node_after op answer q place)) nodes)

abbrev pub copy_of : List ConfiguredNode → ℕ → Edge → ℕ → ConfiguredNode → Bool → EdgeCopy
copy_of nodes k e n q answer = record {
  edge = k;
  from = n;
  answer = answer;
  to = target nodes e.op answer q e.to;
}

-- The copies of an edge from the nodes at its place, of which the first that is looked at has this number.
abbrev pub copies_from : List ConfiguredNode → ℕ → Edge → ℕ → List ConfiguredNode → List EdgeCopy
copies_from nodes k e n [] = []
copies_from nodes k e n (q ∷ qs) =
    cond (q.place == e.from) (map (copy_of nodes k e n q) (answers_of e.op)) [] ++ copies_from nodes k e (suc n) qs

-- the copies of edges, of which the first has this number
abbrev pub all_copies : List ConfiguredNode → ℕ → Edges → List EdgeCopy
all_copies nodes k [] = []
all_copies nodes k (e ∷ es) = copies_from nodes k e 0 nodes ++ all_copies nodes (suc k) es

-- the configured graph of these edges
pub record IsConfigured (g : Edges) (c : ConfiguredGraph) : Type 0 where
  pub nodes : AreNodes g c.nodes.keys
  pub copies : c.copies.items ≡ all_copies c.nodes.keys 0 g
