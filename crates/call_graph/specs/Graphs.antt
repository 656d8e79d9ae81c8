-- The calls of each function, in the order of their numbers.
use Rattle.std.specs.Prelude.{ℕ, ◌<◌, List, length, map, All, Vec}
use Rattle.std.specs.declared.alloc.Global.{Global}

abbrev pub lists : List (Vec ℕ Global) → List (List ℕ)
lists calls = map (λ v. v.items) calls

-- a call is of one of the functions
abbrev pub IsGraph : List (List ℕ) → Type 0
IsGraph graph = All (λ callees. All (λ g. g < length graph) callees) graph
