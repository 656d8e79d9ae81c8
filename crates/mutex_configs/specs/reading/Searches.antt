-- The search for the nodes that are reached.
use Rattle.std.specs.Prelude.{◌≡◌, ◌≢◌, ◌<◌, ◌≤◌, ℕ, Bool, false, cond, List, [], ◌∷◌, ◌++◌, length, get_or}
use Rattle.std.specs.Prelude.{Option, Some, None, Contains, All, AllPairs}
use Rattle.std.specs.List.{list_any}
use Rattle.flow_graph.specs.declared.graphs.Edge.{Edge}
use Rattle.flow_graph.specs.declared.graphs.Graph.{Graph}
use Rattle.flow_graph.specs.declared.operations.Operation.TheVariants as Op
use Rattle.flow_graph.specs.Graphs.{Edges, Leaves}
use Rattle.mutex_configs.specs.declared.nodes.ConfiguredNode.{ConfiguredNode}
use Rattle.mutex_configs.specs.Sets.{answers_of, leads_nowhere, node_after}
use Rattle.mutex_configs.specs.Nodes.{IsReached, AreNodes, HasMoreNodes, entry_node, is_same_node}

-- a node is put behind the others, unless it is among them
abbrev pub added : List ConfiguredNode → ConfiguredNode → List ConfiguredNode
added nodes q = cond (list_any (is_same_node q) nodes) nodes (nodes ++ q ∷ [])

-- the nodes to which the copies of an edge with these answers lead
abbrev pub added_by : List ConfiguredNode → Edge → ConfiguredNode → List Bool → List ConfiguredNode
added_by nodes e q [] = nodes
added_by nodes e q (answer ∷ answers) =
    added_by (cond (leads_nowhere e.op answer q.held) nodes (added nodes (node_after e.op answer q e.to))) e q answers

unfoldable pub added_along : List ConfiguredNode → Edge → ConfiguredNode → List ConfiguredNode
added_along nodes e q = added_by nodes e q (answers_of e.op)

-- what stands in place of an edge that there is not
abbrev pub no_edge : Edge
no_edge = record { from = 0; to = 0; op = Op.Skip }

-- the node's copies of an edge lead to nodes of the list
abbrev pub LeadsInto : List ConfiguredNode → Edge → ConfiguredNode → Type 0
LeadsInto nodes e q = (answer : Bool) → Contains (answers_of e.op) answer → leads_nowhere e.op answer q.held ≡ false
    → Contains nodes (node_after e.op answer q e.to)

-- what the search keeps: the nodes are reached, the entry is among them, and from the first ones each edge leads to one
-- of them
pub record IsSearch (g : Edges) (done : ℕ) (nodes : List ConfiguredNode) : Type 0 where
  pub reached : All (IsReached g) nodes
  pub entry : Contains nodes entry_node
  pub closed : (n : ℕ) → n < done → (e : Edge) → Leaves g (get_or nodes n entry_node).place e
      → LeadsInto nodes e (get_or nodes n entry_node)

-- the nodes to which the copies of the edges with these numbers lead
abbrev pub edge_at : Edges → ℕ → Edge
edge_at g k = get_or g k no_edge

abbrev pub added_all : Edges → List ConfiguredNode → List ℕ → ConfiguredNode → List ConfiguredNode
added_all g nodes [] q = nodes
added_all g nodes (k ∷ ks) q = added_all g (added_along nodes (edge_at g k) q) ks q

-- the nodes of a graph as they are found, or that they are more than this number
abbrev pub IsEnded : Graph → ℕ → Option (List ConfiguredNode) → Type 0
IsEnded graph most (Some nodes) = IsSearch graph.edges.items (length nodes) nodes × AllPairs (λ q r. q ≢ r) nodes
IsEnded graph most None = HasMoreNodes graph.edges.items most

-- the nodes of a graph, or that they are more than this number
abbrev pub IsFound : Graph → ℕ → Option (List ConfiguredNode) → Type 0
IsFound graph most (Some nodes) = AreNodes graph.edges.items nodes × (length nodes ≤ most)
IsFound graph most None = HasMoreNodes graph.edges.items most
