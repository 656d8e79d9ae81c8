-- What is found body by body.
use Rattle.std.specs.Prelude.{◌≡◌, ℕ, ◌<◌, ◌≤◌, List, length, get_or, Option, Some, None}
use Rattle.tm_terms.specs.declared.refusals.Limit.TheVariants as Limits
use Rattle.tm_laid.specs.declared.scales.Scale.{Scale}
use Rattle.tm_laid.specs.Scales.{number_on}
use Rattle.tm_laid.specs.Layouts.{LaidTree}
use Rattle.flow_graph.specs.declared.graphs.Graph.{Graph}
use Rattle.body_builder.specs.lowering.Built.{built}
use Rattle.graph_builder.specs.Lowered.{IsGraphOf, AreGraphs, HasTooManyNodes}

-- for one body: its graph, or that it has too many nodes
abbrev pub IsOne : Scale → LaidTree → ℕ → Option Graph → Type 0
IsOne scale laid body (Some g) = IsGraphOf laid body g × ((built laid body).nodes ≤ number_on scale Limits.Nodes)
IsOne scale laid body None = number_on scale Limits.Nodes < (built laid body).nodes

-- and for all
abbrev pub AreAll : Scale → LaidTree → Option (List Graph) → Type 0
AreAll scale laid (Some gs) = AreGraphs scale laid gs
AreAll scale laid None = HasTooManyNodes scale laid

-- the graphs of the first bodies
pub record AreFirst (scale : Scale) (laid : LaidTree) (count : ℕ) (graphs : List Graph) : Type 0 where
  pub are : length graphs ≡ count
  pub each : (body : ℕ) (other : Graph) → body < length graphs → IsGraphOf laid body (get_or graphs body other)
  pub few : (body : ℕ) → body < length graphs → (built laid body).nodes ≤ number_on scale Limits.Nodes
