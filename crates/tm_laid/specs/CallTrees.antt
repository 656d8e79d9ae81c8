-- The calls below a function: a tree, in the order in which the calls stand in the text.
use Rattle.std.specs.Prelude.{ℕ, zero, suc, ◌+◌, List, [], ◌∷◌}

-- A function with the trees of its calls, in the order of the text.
mutual
  pub data CallTree : Type 0 where
    a_call_of : ℕ → CallTrees → CallTree

  pub data CallTrees : Type 0 where
    no_calls : CallTrees
    and_call : CallTree → CallTrees → CallTrees

abbrev pub trees_of : (ℕ → CallTree) → List ℕ → CallTrees
trees_of tree [] = no_calls
trees_of tree (g ∷ gs) = and_call (tree g) (trees_of tree gs)

-- The tree of a function's calls, at most n calls deep, where `calls` gives the functions that a function calls. Where
-- no function reaches itself, the number of functions is deep enough.
unfoldable pub call_tree : (ℕ → List ℕ) → ℕ → ℕ → CallTree
call_tree calls zero f = a_call_of f no_calls
call_tree calls (suc n) f = a_call_of f (trees_of (call_tree calls n) (calls f))

-- what is counted over all call paths of a tree, so much for each path that ends in a function
abbrev mutual
  pub weight : (ℕ → ℕ) → CallTree → ℕ
  weight w (a_call_of f ts) = w f + weights w ts

  pub weights : (ℕ → ℕ) → CallTrees → ℕ
  weights w no_calls = 0
  weights w (and_call t ts) = weight w t + weights w ts

-- one for each path
abbrev pub one : ℕ → ℕ
one f = 1
