-- The numbers of call paths that a layout gives are those of its paths.
use Rattle.std.proofs.Common.{◌≡◌, sym, subst, inl, inr, ℕ, suc, ◌+◌, ◌<◌, ◌≤◌, List, [], ◌∷◌, length}
use Rattle.std.proofs.Common.{get_or, arith}
use Rattle.std.specs.Prelude.{All}
use Rattle.std.proofs.lemmas.Bool.{cases_lt}
use Rattle.std.proofs.lemmas.List.{get_or_past}
use Rattle.std.proofs.lemmas.List.Elements.{All-nil, All-cons, All-append, All-weaker}
use Rattle.call_graph.specs.tm_typed.Files.{TypedFileTree}
use Rattle.cell_layout.specs.tm_laid.CallTrees.{CallTree, a_call_of, CallTrees, no_calls, and_call, trees_of, weight}
use Rattle.cell_layout.specs.tm_laid.CallTrees.{weights, one}
use Rattle.cell_layout.specs.tm_laid.Paths.{bodies_of, tree_of, body_trees, numbers_from, tree_callees, called_callees}
use Rattle.cell_layout.specs.tm_laid.Paths.{paths_of}
use Rattle.cell_layout.specs.tm_laid.Paths.{first_paths_of, callees_of}
use Rattle.cell_layout.specs.tm_laid.Layouts.{laid_count}
use Rattle.cell_layout.proofs.PathSteps.{paths_counted}

abbrev AreBelow : ℕ → List ℕ → Type 0
AreBelow n xs = All (λ q. q < n) xs

abbrev AreAllBelow : ℕ → List (List ℕ) → Type 0
AreAllBelow n xss = All (AreBelow n) xss

more_below : (m n : ℕ) → m ≤ n → (xs : List ℕ) → AreBelow m xs → AreBelow n xs
more_below m n l xs h = All-weaker (λ q. q < m) (λ q. q < n) (λ q i. omega (arith, l, i)) xs h

more_all_below : (m n : ℕ) → m ≤ n → (xss : List (List ℕ)) → AreAllBelow m xss → AreAllBelow n xss
more_all_below m n l xss h = All-weaker (AreBelow m) (AreBelow n) (more_below m n l) xss h

-- ## Numbers of trees

some_weight : (t : CallTree) → 0 < weight one t
some_weight (a_call_of f ts) = omega arith

numbers_below : (n : ℕ) (ts : CallTrees) → AreBelow (n + weights one ts) (numbers_from n ts)
numbers_below n no_calls = All-nil (λ q. q < n + 0)
numbers_below n (and_call t ts) =
    let some = some_weight t in
    All-cons (λ q. q < n + (weight one t + weights one ts)) n (numbers_from (n + weight one t) ts)
    (omega (arith, some))
    (more_below ((n + weight one t) + weights one ts) (n + (weight one t + weights one ts)) (omega arith)
    (numbers_from (n + weight one t) ts) (numbers_below (n + weight one t) ts))

mutual
  tree_below : (n : ℕ) (t : CallTree) → AreAllBelow (n + weight one t) (tree_callees n t)
  tree_below n (a_call_of f ts) =
      All-cons (AreBelow (n + (1 + weights one ts))) (numbers_from (suc n) ts) (called_callees (suc n) ts)
      (more_below (suc n + weights one ts) (n + (1 + weights one ts)) (omega arith) (numbers_from (suc n) ts)
      (numbers_below (suc n) ts))
      (more_all_below (suc n + weights one ts) (n + (1 + weights one ts)) (omega arith) (called_callees (suc n) ts)
      (trees_below (suc n) ts))

  trees_below : (n : ℕ) (ts : CallTrees) → AreAllBelow (n + weights one ts) (called_callees n ts)
  trees_below n no_calls = All-nil (AreBelow (n + 0))
  trees_below n (and_call t ts) =
      All-append (AreBelow (n + (weight one t + weights one ts))) (tree_callees n t)
      (called_callees (n + weight one t) ts)
      (more_all_below (n + weight one t) (n + (weight one t + weights one ts)) (omega arith) (tree_callees n t)
      (tree_below n t))
      (more_all_below ((n + weight one t) + weights one ts) (n + (weight one t + weights one ts)) (omega arith)
      (called_callees (n + weight one t) ts) (trees_below (n + weight one t) ts))

some_paths : (tree : ℕ → CallTree) (bodies : List ℕ) → 0 < length bodies → 0 < weights one (trees_of tree bodies)
some_paths tree [] l = absurd (omega (arith, l))
some_paths tree (b ∷ bs) l = let some = some_weight (tree b) in omega (arith, some)

-- ## Numbers of a layout

below_or : (n : ℕ) (xs : List ℕ) (i : ℕ) → 0 < n → AreBelow n xs → get_or xs i 0 < n
below_or n xs i some h = elim (cases_lt i (length xs)) [
  | inl l ↦ h i 0 l
  | inr past ↦ subst (λ q. q < n) (sym (get_or_past xs i 0 past)) some
]

all_below_or : (n : ℕ) (xss : List (List ℕ)) (i j : ℕ) → 0 < n → AreAllBelow n xss → get_or (get_or xss i []) j 0 < n
all_below_or n xss i j some h = elim (cases_lt i (length xss)) [
  | inl l ↦ below_or n (get_or xss i []) j some (h i [] l)
  | inr past ↦
      subst (λ (xs : List ℕ). get_or xs j 0 < n) (sym (get_or_past xss i [] past))
      (below_or n [] j some (All-nil (λ q. q < n)))
]

paths_weigh : (file : TypedFileTree) → length (paths_of file) ≡ weights one (body_trees file)
unfolding laid_count
paths_weigh file = paths_counted file

module _ (file : TypedFileTree) (some : 0 < length (bodies_of file)) where
  few : 0 < weights one (body_trees file)
  few = some_paths (tree_of file) (bodies_of file) some

  pub first_below : (body : ℕ) → get_or (first_paths_of file) body 0 < length (paths_of file)
  first_below body =
      subst (λ n. get_or (first_paths_of file) body 0 < n) (sym (paths_weigh file))
      (below_or (weights one (body_trees file)) (first_paths_of file) body few
      (more_below (0 + weights one (body_trees file)) (weights one (body_trees file)) (omega arith)
      (first_paths_of file) (numbers_below 0 (body_trees file))))

  pub callee_below : (path site : ℕ) → get_or (get_or (callees_of file) path []) site 0 < length (paths_of file)
  callee_below path site =
      subst (λ n. get_or (get_or (callees_of file) path []) site 0 < n) (sym (paths_weigh file))
      (all_below_or (weights one (body_trees file)) (callees_of file) path site few
      (more_all_below (0 + weights one (body_trees file)) (weights one (body_trees file)) (omega arith)
      (callees_of file) (trees_below 0 (body_trees file))))
