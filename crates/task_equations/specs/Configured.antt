-- A body of a graph and its configured graph, and what its types and thresholds keep.
use Rattle.std.specs.Prelude.{◌≡◌, ◌≢◌, ℕ, ◌<◌, List, length, get_or, All}
use Rattle.mutex_configs.specs.flow_graph.declared.graphs.Edge.{Edge}
use Rattle.mutex_configs.specs.flow_graph.declared.graphs.Graph.{Graph}
use Rattle.mutex_configs.specs.graph_facts.Live.{AreLive}
use Rattle.mutex_configs.specs.graph_facts.Heads.{AreHeads}
use Rattle.mutex_configs.specs.declared.nodes.ConfiguredGraph.{ConfiguredGraph}
use Rattle.state_fits.specs.typed_values.Types.{HaveEnds}
use Rattle.state_fits.specs.temporary_types.Sorts.{Sort, FitsSorts}
use Rattle.state_fits.specs.temporary_types.Settled.{AreSettled}
use Rattle.state_fits.specs.Fits.{SpotsSeen}
use Rattle.state_fits.specs.Typed.{SpotsAgree, NamesObjects}
use Rattle.task_equations.specs.Bodies.{Body, no_edge}

-- no edge leads to the entry
abbrev pub NeverReturns : Graph → Type 0
NeverReturns g = All (λ (e : Edge). e.to ≢ 0) g.edges.items

-- the edges, nodes and copies of a graph and its configured graph, what is live in the graph, and its heads
pub record IsBodyOf (g : Graph) (c : ConfiguredGraph) (b : Body) : Type 0 where
  pub edges : b.edges ≡ g.edges.items
  pub nodes : b.nodes ≡ c.nodes.keys
  pub copies : b.copies ≡ c.copies.items
  pub live : AreLive g.edges.items g.nodes b.live
  pub heads : AreHeads g.edges.items b.heads

-- Thresholds have the ends of the types, accesses find cells of theirs that the body sees, operations fit the sorts of
-- temporaries, constant pointers lead to objects that there are, and no edge gives a temporary anew that was copied.
pub record IsTypedBody (b : Body) (sorts : List Sort) : Type 0 where
  pub marks : HaveEnds b.marks
  pub spots : SpotsAgree b.laid b.task
  pub seen : SpotsSeen b.laid b.task
  pub operations : (k : ℕ) → k < length b.edges → (let e = get_or b.edges k no_edge in FitsSorts b.laid sorts e.op)
  pub objects : (k : ℕ) → k < length b.edges → (let e = get_or b.edges k no_edge in NamesObjects b.laid e.op)
  pub settled : AreSettled b.edges
