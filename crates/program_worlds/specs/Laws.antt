-- Which programs have graphs along which their tasks go.
use Rattle.std.specs.Prelude.{List}
use Rattle.tm_laid.specs.declared.layouts.Laid.{Laid}
use Rattle.tm_laid.specs.declared.scales.Scale.{Scale}
use Rattle.tm_laid.specs.Layouts.{laid_tree}
use Rattle.flow_graph.specs.declared.graphs.Graph.{Graph}
use Rattle.graph_builder.specs.Lowered.{AreGraphs}
use Rattle.lowering_laws.specs.LaidFiles.{IsLaidFile}
use Rattle.concrete_worlds.specs.Lawful.{HasGraphs}

-- the layout of a typed file, and the graphs of its bodies
abbrev pub ProgramsHaveGraphs : Type 0
ProgramsHaveGraphs =
    (scale : Scale) (laid : Laid) (graphs : List Graph) → IsLaidFile (laid_tree laid)
    → AreGraphs scale (laid_tree laid) graphs
    → HasGraphs laid graphs
