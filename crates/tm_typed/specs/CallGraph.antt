-- Calls among functions: which function reaches which by calls, and orders in which each stands behind those that it
-- calls.
use Rattle.std.specs.Prelude.{◌≡◌, ℕ, List, [], ◌∷◌, ◌++◌, get_or, All, Contains}

-- the functions that a function calls, where the calls of all stand in the order of their numbers
abbrev pub calls_in : List (List ℕ) → ℕ → List ℕ
calls_in graph f = get_or graph f []

-- the function f calls h, or calls one that reaches h
pub data Reaches (calls : ℕ → List ℕ) : ℕ → ℕ → Type 0 where
  by_call : (f h : ℕ) → Contains (calls f) h → Reaches calls f h
  by_calls : (f g h : ℕ) → Contains (calls f) g → Reaches calls g h → Reaches calls f h

-- each of these functions calls only those that stand before it, or before all of them
abbrev pub AreBehind : (ℕ → List ℕ) → List ℕ → List ℕ → Type 0
AreBehind calls before [] = Unit {0}
AreBehind calls before (f ∷ fs) = All (Contains before) (calls f) × AreBehind calls (before ++ f ∷ []) fs

-- each function stands behind those that it calls
abbrev pub AreCalleesFirst : (ℕ → List ℕ) → List ℕ → Type 0
AreCalleesFirst calls fs = AreBehind calls [] fs

-- the first of some functions that reaches itself
pub record IsFirstRecursive (calls : ℕ → List ℕ) (fs : List ℕ) (f : ℕ) : Type 0 where
  pub before : List ℕ
  pub after : List ℕ
  pub stands : fs ≡ before ++ f ∷ after
  pub recursive : Reaches calls f f
  pub none_before : All (λ g. Reaches calls g g → ⊥) before
