-- The call paths of edges.
use Rattle.std.specs.Prelude.{◌≡◌, ℕ, ◌<◌, List, [], length, get_or}
use Rattle.tm_laid.specs.Layouts.{LaidTree}
use Rattle.body_builder.specs.lowering.Built.{graph_of}

-- for each of the first bodies a number for each edge of its graph
pub record AreFirstPaths (laid : LaidTree) (count : ℕ) (paths : List (List ℕ)) : Type 0 where
  pub are : length paths ≡ count
  pub each : (body : ℕ) → body < count → length (get_or paths body []) ≡ length (graph_of laid body)

-- and for all
abbrev pub AreEdgePaths : LaidTree → List (List ℕ) → Type 0
AreEdgePaths laid paths = AreFirstPaths laid (length laid.bodies) paths
