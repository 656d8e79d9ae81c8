-- What the search for an order answers.
use Rattle.std.specs.Prelude.{◌≡◌, ℕ, ◌<◌, List, length, All, Contains, Option, Some, None, Vec}
use Rattle.std.specs.declared.alloc.Global.{Global}
use Rattle.tm_typed.specs.CallGraph.{AreCalleesFirst, IsFirstRecursive, calls_in}
use Rattle.call_graph.specs.declared.orders.CallOrder.{CallOrder}
use Rattle.call_graph.specs.declared.orders.CallOrder.TheVariants as Orders

-- all functions, each behind those that it calls
pub record IsWholeOrder (graph : List (List ℕ)) (order : List ℕ) : Type 0 where
  pub callees_first : AreCalleesFirst (calls_in graph) order
  pub within : All (λ f. f < length graph) order
  pub whole : (f : ℕ) → f < length graph → Contains order f

-- a function that calls some is among the definitions
pub record AreDefinitions (graph : List (List ℕ)) (definitions : List ℕ) : Type 0 where
  pub defined : (f : ℕ) → 0 < length (calls_in graph f) → Contains definitions f

-- the order, or else the first definition of a function that reaches itself
abbrev pub IsCallOrder : List (List ℕ) → List ℕ → CallOrder → Type 0
IsCallOrder graph definitions (Orders.Ordered o) = IsWholeOrder graph o.items
IsCallOrder graph definitions (Orders.Recursive f) = IsFirstRecursive (calls_in graph) definitions f
