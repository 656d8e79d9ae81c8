-- The edges that leave each node, by their numbers.
use Rattle.std.specs.Prelude.{◌≡◌, ℕ, suc, ◌==◌, ◌<◌, if◌then◌else◌, List, [], ◌∷◌, length, get_or}
use Rattle.flow_graph.specs.Graphs.{Edges}

-- the numbers of the edges that leave a node, in order, where the first edge has this number
abbrev pub leaving_numbers : ℕ → Edges → ℕ → List ℕ
leaving_numbers k [] n = []
leaving_numbers k (e ∷ g) n = if e.from == n then k ∷ leaving_numbers (suc k) g n else leaving_numbers (suc k) g n

-- so many lists, which have for each node the numbers of the edges that leave it
pub record AreLeaving (g : Edges) (nodes : ℕ) (lists : List (List ℕ)) : Type 0 where
  pub node_count : length lists ≡ nodes
  pub numbers : (n : ℕ) → n < nodes → get_or lists n [] ≡ leaving_numbers 0 g n
