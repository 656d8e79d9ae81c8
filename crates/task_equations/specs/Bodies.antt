-- What the equations of one body are made of.
use Rattle.std.specs.Prelude.{ℕ, ℤ, List, [], get_or}
use Rattle.mutex_configs.specs.tm_laid.Layouts.{LaidTree}
use Rattle.mutex_configs.specs.flow_graph.declared.graphs.Edge.{Edge}
use Rattle.mutex_configs.specs.flow_graph.declared.operations.Operation.TheVariants as Op
use Rattle.mutex_configs.specs.flow_graph.Graphs.{Edges}
use Rattle.mutex_configs.specs.graph_facts.declared.regions.Head.{Head}
use Rattle.mutex_configs.specs.declared.nodes.ConfiguredNode.{ConfiguredNode}
use Rattle.mutex_configs.specs.declared.nodes.EdgeCopy.{EdgeCopy}
use Rattle.mutex_configs.specs.Nodes.{entry_node}
use Rattle.std.specs.Prelude.{false, None}

-- A body, which is a task or the initial section: its number in a layout, the priorities by which it hears other tasks,
-- its graph and its configured graph, the thresholds; and of the graph the live temporaries at each place, the
-- temporaries that hold pointers, and the heads with the abstract cells that are written in their regions.
pub record Body : Type 0 where
  pub laid : LaidTree
  pub task : ℕ
  pub priorities : List ℕ
  pub edges : Edges
  pub nodes : List ConfiguredNode
  pub copies : List EdgeCopy
  pub marks : List ℤ
  pub live : List (List ℕ)
  pub pointers : List ℕ
  pub heads : List Head
  pub written : List (List ℕ)

-- what stands in place of an edge and of a copy that there is not
abbrev pub no_edge : Edge
no_edge = record { from = 0; to = 0; op = Op.Skip }

abbrev pub no_copy : EdgeCopy
no_copy = record { edge = 0; from = 0; answer = false; to = None }

-- the edge of a copy, a node by its number, a copy by its number, and the live temporaries at a place
abbrev pub edge_of : Body → EdgeCopy → Edge
edge_of b c = get_or b.edges c.edge no_edge

abbrev pub node_at : Body → ℕ → ConfiguredNode
node_at b n = get_or b.nodes n entry_node

abbrev pub copy_at : Body → ℕ → EdgeCopy
copy_at b k = get_or b.copies k no_copy

abbrev pub live_at : Body → ℕ → List ℕ
live_at b place = get_or b.live place []
