-- Live temporaries, as lists.
use Rattle.std.specs.Prelude.{◌≡◌, ℕ, ◌<◌, ◌↔◌, List, [], length, get_or, Contains}
use Rattle.std.specs.List.Sorted.{IsStrictlyIncreasing}
use Rattle.flow_graph.specs.Graphs.{Edges, IsLive}

-- so many lists, which have for each node the temporaries that are live there, in rising order
pub record AreLive (g : Edges) (nodes : ℕ) (lists : List (List ℕ)) : Type 0 where
  pub node_count : length lists ≡ nodes
  pub rising : (n : ℕ) → n < nodes → IsStrictlyIncreasing (get_or lists n [])
  pub live : (n : ℕ) → n < nodes → (t : ℕ) → Contains (get_or lists n []) t ↔ IsLive g t n
