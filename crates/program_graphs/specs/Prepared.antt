-- The program of a layout, or the limit that it exceeds.
use Rattle.std.specs.Prelude.{◌≡◌, ◌⊎◌, List, Result, Ok, Err}
use Rattle.tm_terms.specs.declared.refusals.Fail.{Fail}
use Rattle.tm_terms.specs.declared.refusals.Fail.TheVariants as Fails
use Rattle.tm_terms.specs.declared.refusals.Limit.TheVariants as Limits
use Rattle.tm_terms.specs.declared.refusals.Refusal.{Refusal}
use Rattle.tm_laid.specs.declared.scales.Scale.{Scale}
use Rattle.tm_laid.specs.Layouts.{LaidTree, beyond}
use Rattle.mutex_configs.specs.flow_graph.declared.graphs.Graph.{Graph}
use Rattle.mutex_configs.specs.declared.nodes.ConfiguredGraph.{ConfiguredGraph}
use Rattle.mutex_configs.specs.declared.programs.Program.{Program}
use Rattle.mutex_configs.specs.Programs.{IsAnswer}
use Rattle.graph_builder.specs.Lowered.{AreGraphs, HasTooManyNodes}

-- the graphs of a program, and their configured graphs
pub record Graphed : Type 0 where
  pub graphs : List Graph
  pub configured : List ConfiguredGraph

abbrev pub answer_of : Result Program Fail → Result Graphed Fail
answer_of (Ok p) = Ok (record { graphs = p.graphs.graphs.items; configured = p.configured.items })
answer_of (Err e) = Err e

-- the graphs of the bodies exceed a limit of a scale once they are configured
pub record AreBeyond (scale : Scale) (laid : LaidTree) (r : Refusal) : Type 0 where
  pub graphs : List Graph
  pub are : AreGraphs scale laid graphs
  pub beyond : IsAnswer scale laid graphs (Err (Fails.Refused r))

-- The answer to a layout on a scale: the graph of each body with its configured graph, or the limit of nodes that a
-- graph exceeds, or else that of nodes or work that configured graphs exceed.
abbrev pub IsPrepared : Scale → LaidTree → Result Graphed Fail → Type 0
IsPrepared scale laid (Ok p) = AreGraphs scale laid p.graphs × IsAnswer scale laid p.graphs (Ok p.configured)
IsPrepared scale laid (Err (Fails.Refused r)) =
    ((r ≡ beyond Limits.Nodes) × HasTooManyNodes scale laid) ⊎ AreBeyond scale laid r
IsPrepared scale laid (Err Fails.NoMemory) = Unit {0}
