-- How many temporaries a graph has.
use Rattle.std.specs.Prelude.{◌≡◌, ℕ, suc, ◌<◌, max, List, [], ◌∷◌, Option, Some, None}
use Rattle.flow_graph.specs.Operations.{given}
use Rattle.flow_graph.specs.Graphs.{Edges}

-- one more than the greatest temporary that edges give
abbrev pub behind_given : Option ℕ → ℕ
behind_given None = 0
behind_given (Some temp) = suc temp

abbrev pub temporaries_in : Edges → ℕ
temporaries_in [] = 0
temporaries_in (e ∷ graph) = max (behind_given (given e.op)) (temporaries_in graph)

-- each temporary that is given is one of so many
abbrev pub GivesBelow : ℕ → Edges → Type 0
GivesBelow count [] = Unit {0}
GivesBelow count (e ∷ graph) = ((temp : ℕ) → given e.op ≡ Some temp → temp < count) × GivesBelow count graph
