-- What is placed: edges behind the others, and what is there after them.
use Rattle.std.specs.Prelude.{◌≡◌, ℕ, suc, List, [], ◌∷◌, ◌++◌, Option, None}
use Rattle.flow_graph.specs.declared.graphs.Edge.{Edge}
use Rattle.flow_graph.specs.declared.operations.Test.{Test}
use Rattle.flow_graph.specs.declared.operations.Operation.{Operation}
use Rattle.lowering.specs.Built.{Building, place_with, branch}
use Rattle.body_builder.specs.declared.fragments.Found.{Found}

-- after an expression: the temporary of its value, or as a branch the node of its other way
pub record Outcome : Type 0 where
  pub at : Building
  pub temp : Option ℕ
  pub other : ℕ

-- after what always has a value
pub record Given : Type 0 where
  pub at : Building
  pub temp : ℕ

-- what the code answers is this outcome
abbrev pub Finds : Outcome → Building → Found → Type 0
Finds y b x = (b ≡ y.at) × (x.temp ≡ y.temp) × (x.other ≡ y.other)

abbrev pub Gives : Given → Building → ℕ → Type 0
Gives y b t = (b ≡ y.at) × (t ≡ y.temp)

-- an edge behind the others
abbrev pub with_edge : Edge → Building → Building
with_edge e b = record { edges = b.edges ++ e ∷ []; node = b.node; nodes = b.nodes; temps = b.temps }

-- a test
unfoldable pub tested : Test → Building → Outcome
tested test b = record { at = branch test b; temp = None; other = suc b.nodes }

-- a new value by one operation, which gives the next temporary
unfoldable pub new_value : Operation → Building → Given
new_value op b = record { at = place_with (suc b.temps) op b; temp = b.temps }
