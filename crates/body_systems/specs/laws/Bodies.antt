-- The facts of a graph and its configured graph make the body of both.
use Rattle.std.specs.Prelude.{ℕ, ℤ, List, refl}
use Rattle.std.proofs.Common.{ap}
use Rattle.tm_laid.specs.Layouts.{LaidTree}
use Rattle.flow_graph.specs.declared.graphs.Graph.{Graph}
use Rattle.mutex_configs.specs.declared.nodes.ConfiguredGraph.{ConfiguredGraph}
use Rattle.program_equations.specs.Programs.{marked_from, IsBodyIn}
use Rattle.body_systems.specs.Facts.{Facts, AreFactsOf}
use Rattle.body_systems.specs.Systems.{body_with}

pub facts_make_body : (laid : LaidTree) (g : Graph) (c : ConfiguredGraph) (f : Facts) → AreFactsOf laid g c f
    → (task : ℕ) (priorities : List ℕ) (marks : List ℤ)
    → IsBodyIn laid g c (body_with laid task priorities marks g c f)
facts_make_body laid g c f are task priorities marks = record {
  edges = refl;
  nodes = refl;
  copies = refl;
  live = are.live;
  pointers = ap (marked_from 0) are.pointers;
  heads = are.heads;
  written = are.written;
}
