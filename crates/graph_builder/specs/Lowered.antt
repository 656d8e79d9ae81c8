-- The graphs of a program, or the limit that one of them exceeds.
use Rattle.std.specs.Prelude.{◌≡◌, ℕ, ◌<◌, ◌≤◌, List, length, get_or, Result, Ok, Err}
use Rattle.tm_terms.specs.declared.refusals.Fail.{Fail}
use Rattle.tm_terms.specs.declared.refusals.Fail.TheVariants as Fails
use Rattle.tm_terms.specs.declared.refusals.Limit.TheVariants as Limits
use Rattle.tm_laid.specs.declared.scales.Scale.{Scale}
use Rattle.tm_laid.specs.Scales.{number_on}
use Rattle.tm_laid.specs.Layouts.{LaidTree, beyond}
use Rattle.flow_graph.specs.declared.graphs.Graph.{Graph}
use Rattle.body_builder.specs.lowering.Built.{built, graph_of}

-- the graph of a body
pub record IsGraphOf (laid : LaidTree) (body : ℕ) (graph : Graph) : Type 0 where
  pub number : graph.body ≡ body
  pub nodes : graph.nodes ≡ (built laid body).nodes
  pub edges : graph.edges.items ≡ graph_of laid body

-- for each body its graph, in order, and none of them has more nodes than the limit allows on a scale
pub record AreGraphs (scale : Scale) (laid : LaidTree) (graphs : List Graph) : Type 0 where
  pub count : length graphs ≡ length laid.bodies
  pub each : (body : ℕ) (other : Graph) → body < length graphs → IsGraphOf laid body (get_or graphs body other)
  pub few : (body : ℕ) → body < length graphs → (built laid body).nodes ≤ number_on scale Limits.Nodes

-- the graph of some body has more
pub record HasTooManyNodes (scale : Scale) (laid : LaidTree) : Type 0 where
  pub body : ℕ
  pub within : body < length laid.bodies
  pub more : number_on scale Limits.Nodes < (built laid body).nodes

-- The answer to a layout on a scale: the graph of each body, or the limit of nodes that some graph exceeds.
abbrev pub IsLowered : Scale → LaidTree → Result (List Graph) Fail → Type 0
IsLowered scale laid (Ok graphs) = AreGraphs scale laid graphs
IsLowered scale laid (Err (Fails.Refused r)) = (r ≡ beyond Limits.Nodes) × HasTooManyNodes scale laid
IsLowered scale laid (Err Fails.NoMemory) = Unit {0}
