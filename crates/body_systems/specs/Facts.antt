-- What is computed once of a body.
use Rattle.std.specs.Prelude.{◌≡◌, ℕ, Bool, List, map}
use Rattle.tm_laid.specs.Layouts.{LaidTree}
use Rattle.flow_graph.specs.declared.graphs.Graph.{Graph}
use Rattle.graph_facts.specs.declared.regions.Head.{Head}
use Rattle.graph_facts.specs.Live.{AreLive}
use Rattle.graph_facts.specs.Heads.{AreHeads}
use Rattle.region_cells.specs.Written.{AreAllWritten}
use Rattle.mutex_configs.specs.declared.nodes.ConfiguredGraph.{ConfiguredGraph}
use Rattle.temporary_types.specs.PointerMarks.{pointer_marks}
use Rattle.table_covers.specs.declared.links.Link.{Link}
use Rattle.task_equations.specs.Equations.{link_of}
use Rattle.temporary_types.specs.Temporaries.{temporaries_in}
use Rattle.program_equations.specs.Programs.{marked_from}

-- The links of a body, the live temporaries at each place, for each temporary whether it holds pointers, and the heads
-- with the abstract cells that are written in their regions.
pub record Facts : Type 0 where
  pub links : List Link
  pub live : List (List ℕ)
  pub pointer_marks : List Bool
  pub heads : List Head
  pub written : List (List ℕ)

-- the temporaries that hold pointers
abbrev pub pointers_of : Facts → List ℕ
pointers_of f = marked_from 0 f.pointer_marks

-- the facts of a graph and its configured graph, in a layout
pub record AreFactsOf (laid : LaidTree) (g : Graph) (c : ConfiguredGraph) (f : Facts) : Type 0 where
  pub links : f.links ≡ map link_of c.copies.items
  pub live : AreLive g.edges.items g.nodes f.live
  pub pointers : f.pointer_marks ≡ pointer_marks g.edges.items (temporaries_in g.edges.items)
  pub heads : AreHeads g.edges.items f.heads
  pub written : AreAllWritten laid g.edges.items f.heads f.written
