-- Copies of edges from the numbers of the nodes that they leave.
use Rattle.std.specs.Prelude.{ℕ, List, [], ◌∷◌, ◌++◌, map, get_or}
use Rattle.flow_graph.specs.declared.graphs.Edge.{Edge}
use Rattle.mutex_configs.specs.declared.nodes.ConfiguredNode.{ConfiguredNode}
use Rattle.mutex_configs.specs.declared.nodes.EdgeCopy.{EdgeCopy}
use Rattle.mutex_configs.specs.Sets.{answers_of}
use Rattle.mutex_configs.specs.Nodes.{entry_node, copy_of}

-- the copies of an edge from the node with this number
unfoldable pub copies_of_node : List ConfiguredNode → ℕ → Edge → ℕ → List EdgeCopy
copies_of_node nodes k e n = map (copy_of nodes k e n (get_or nodes n entry_node)) (answers_of e.op)

-- and from the nodes with these numbers
abbrev pub copies_at : List ConfiguredNode → ℕ → Edge → List ℕ → List EdgeCopy
copies_at nodes k e [] = []
copies_at nodes k e (n ∷ ns) = copies_of_node nodes k e n ++ copies_at nodes k e ns
