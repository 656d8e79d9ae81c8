-- Functions that stand behind those that they call: none reaches itself; and the answers for what is found.
use Rattle.std.proofs.Common.{◌≡◌, ℕ, ◌<◌, ◌≤◌, List, [], length, get_or, refl, sym, subst, arith, inl, inr}
use Rattle.std.specs.Prelude.{Contains, IfSome, Option, Some, None, Result, Ok, Err}
use Rattle.std.proofs.lemmas.Bool.{cases_lt}
use Rattle.std.proofs.lemmas.List.{get_or_past}
use Rattle.tm_terms.specs.declared.tokens.Name.{Name}
use Rattle.tm_terms.specs.declared.refusals.Refusal.{Refusal}
use Rattle.tm_terms.specs.declared.refusals.Fail.{Fail}
use Rattle.tm_terms.specs.declared.refusals.Fail.TheVariants as Fails
use Rattle.tm_trees.specs.FileTrees.{ItemTree}
use Rattle.tm_typed.specs.Refusals.{Gives}
use Rattle.tm_typed.specs.CallGraph.{calls_in, Reaches, by_call, by_calls}
use Rattle.tm_typed.specs.Files.{FileState, TypedFileTree, first_file_state, items_in, Ends, IsTyped}
use Rattle.call_graph.specs.Orders.{IsWholeOrder}
use Rattle.call_graph.proofs.Paths.{acyclic_order}
use Rattle.c_typing.specs.Views.{answer_of}

calls_inside : (graph : List (List ℕ)) (k h : ℕ) → Contains (calls_in graph k) h → k < length graph
calls_inside graph k h c = elim (cases_lt k (length graph)) [
  | inl inside ↦ inside
  | inr past ↦ absurd (
      let P : List ℕ → Type 0 = λ hs. Contains hs h in
      let nothing : Contains [] h = subst P (get_or_past graph k [] past) c in
      omega (arith, nothing.1))
]

-- a function that reaches one is one of the graph
reaches_inside : (graph : List (List ℕ)) (k h : ℕ) → Reaches (calls_in graph) k h → k < length graph
reaches_inside graph _ _ (by_call k h c) = calls_inside graph k h c
reaches_inside graph _ _ (by_calls k g h c r) = calls_inside graph k g c

pub ordered_acyclic : (graph : List (List ℕ)) (order : List ℕ) → IsWholeOrder graph order → (k : ℕ) → Reaches (calls_in graph) k k → ⊥
ordered_acyclic graph order w k r = acyclic_order (calls_in graph) order k w.callees_first (w.whole k (reaches_inside graph k k r)) r

-- a refusal of the items is one of the file
pub items_refused : {A : Type 0} (view : A → FileState) (main : Option Name) (items : List ItemTree) (f : Fail) → Gives view (Err f) (items_in first_file_state items)
    → IfSome (answer_of (Err f)) (λ answer. IsTyped main items answer)
items_refused view main items (Fails.Refused r) e = let P : Result FileState Refusal → Type 0 = λ x. Ends main x (Err r) in subst P (sym e) refl
items_refused view main items Fails.NoMemory e = tt
