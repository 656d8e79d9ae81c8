-- Each layout of a typed file has a program on a scale or exceeds a limit, and not both.
use Rattle.std.specs.Prelude.{◌≡◌, ◌⊎◌, ℕ, List, [], ◌∷◌, map, Ok, Err}
use Rattle.region_cells.specs.tm_terms.declared.refusals.Fail.TheVariants as Fails
use Rattle.region_cells.specs.tm_terms.declared.refusals.Limit.TheVariants as Limits
use Rattle.region_cells.specs.tm_terms.declared.refusals.Refusal.{Refusal}
use Rattle.region_cells.specs.tm_laid.declared.scales.Scale.{Scale}
use Rattle.region_cells.specs.tm_laid.Layouts.{LaidTree, beyond}
use Rattle.region_cells.specs.flow_graph.declared.graphs.Graph.{Graph}
use Rattle.region_cells.specs.flow_graph.Graphs.{Edges}
use Rattle.region_cells.specs.graph_facts.declared.regions.Head.{Head}
use Rattle.region_cells.specs.graph_facts.Live.{AreLive}
use Rattle.region_cells.specs.graph_facts.Heads.{AreHeads}
use Rattle.region_cells.specs.Written.{AreAllWritten}
use Rattle.program_graphs.specs.mutex_configs.declared.nodes.ConfiguredGraph.{ConfiguredGraph}
use Rattle.program_graphs.specs.lowering_laws.LaidFiles.{IsLaidFile}
use Rattle.program_graphs.specs.Prepared.{Graphed, IsPrepared}

-- the layout has these graphs with their configured graphs
abbrev pub IsProgram : Scale → LaidTree → Graphed → Type 0
IsProgram scale laid p = IsPrepared scale laid (Ok p)

-- the layout is refused for this reason
abbrev pub IsBeyond : Scale → LaidTree → Refusal → Type 0
IsBeyond scale laid r = IsPrepared scale laid (Err (Fails.Refused r))

-- a layout has a program, or exceeds the limit of nodes or that of work
abbrev pub SomeProgram : Type 0
SomeProgram = (scale : Scale) (laid : LaidTree) → IsLaidFile laid → ((p : Graphed) × IsProgram scale laid p)
    ⊎ (IsBeyond scale laid (beyond Limits.Nodes) ⊎ IsBeyond scale laid (beyond Limits.Work))

-- one that has a program exceeds no limit
abbrev pub NeverBoth : Type 0
NeverBoth = (scale : Scale) (laid : LaidTree) (p : Graphed) (r : Refusal) → IsProgram scale laid p
    → IsBeyond scale laid r → ⊥

-- it exceeds one limit
abbrev pub OneLimit : Type 0
OneLimit = (scale : Scale) (laid : LaidTree) (r s : Refusal) → IsBeyond scale laid r → IsBeyond scale laid s → r ≡ s

abbrev pub edges_of : List Graph → List Edges
edges_of gs = map (λ (g : Graph). g.edges.items) gs

-- the same nodes and the same copies
abbrev pub AreAlike : List ConfiguredGraph → List ConfiguredGraph → Type 0
AreAlike [] [] = Unit {0}
AreAlike [] (d ∷ ds) = ⊥
AreAlike (c ∷ cs) [] = ⊥
AreAlike (c ∷ cs) (d ∷ ds) = (c.nodes.keys ≡ d.nodes.keys) × (c.copies.items ≡ d.copies.items) × AreAlike cs ds

-- and its program is one, on whatever scales: the same edges, and the same configured graphs
abbrev pub ProgramsAreAlike : Type 0
ProgramsAreAlike =
    (scale other : Scale) (laid : LaidTree) (p q : Graphed) → IsProgram scale laid p → IsProgram other laid q
    → (edges_of p.graphs ≡ edges_of q.graphs) × AreAlike p.configured q.configured

-- ## What the graphs of a program have

-- Live temporaries, and heads with the cells that are written in their regions, are lists, whatever the graph.
pub record HasFacts (laid : LaidTree) (g : Edges) (nodes : ℕ) : Type 0 where
  pub live : List (List ℕ)
  pub are_live : AreLive g nodes live
  pub heads : List Head
  pub are_heads : AreHeads g heads
  pub written : List (List ℕ)
  pub are_written : AreAllWritten laid g heads written

abbrev pub FactsOfGraphs : Type 0
FactsOfGraphs = (laid : LaidTree) (g : Edges) (nodes : ℕ) → HasFacts laid g nodes
