-- Laws of orders with callees first.
use Rattle.std.specs.Prelude.{ℕ, List, Contains}
use Rattle.tm_typed.specs.CallGraph.{Reaches, AreCalleesFirst}

-- functions that stand behind those that they call do not reach themselves
abbrev pub NoneReachesItself : Type 0
NoneReachesItself = (calls : ℕ → List ℕ) (fs : List ℕ) (f : ℕ) → AreCalleesFirst calls fs → Contains fs f
    → Reaches calls f f → ⊥
