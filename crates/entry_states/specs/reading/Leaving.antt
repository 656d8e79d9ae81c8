-- Marks at the places that edges leave.
use Rattle.std.specs.Prelude.{◌≡◌, ℕ, ◌<◌, Bool, false, List, length, get_or}
use Rattle.flow_graph.specs.Graphs.{Edges}
use Rattle.body_systems.specs.program_equations.Entries.{is_left}

-- of each place below a number it is marked whether an edge leaves it
pub record AreLeft (graph : Edges) (places : ℕ) (marks : List Bool) : Type 0 where
  pub count : length marks ≡ places
  pub each : (place : ℕ) → place < length marks → get_or marks place false ≡ is_left graph place
