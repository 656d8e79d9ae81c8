-- Each function that calls one is among the definitions of its file.
use Rattle.std.proofs.Common.{◌≡◌, ℕ, ◌<◌, ◌≤◌, zero, suc, List, [], ◌∷◌, ◌++◌, inl, inr, length, get_or, refl, sym, subst, ◌∙◌, arith}
use Rattle.std.specs.Prelude.{Bool, true, false, Contains, slice_set, Option, Some, None, Result, Ok, is_some, ◌||◌}
use Rattle.std.proofs.lemmas.Bool.{cases_lt, cases_eq, cases_order}
use Rattle.std.proofs.lemmas.List.{length-append, length-set, get_or-set_other, get_or_append_left, get_or_past}
use Rattle.std.proofs.lemmas.List.Elements.{Contains-append_left, Contains-push}
use Rattle.tm_typed.specs.tm_terms.declared.places.Place.{Place}
use Rattle.tm_typed.specs.tm_terms.declared.tokens.Name.{Name}
use Rattle.tm_typed.specs.tm_terms.declared.refusals.Kind.{Kind}
use Rattle.tm_typed.specs.tm_terms.declared.refusals.Kind.TheVariants as Kinds
use Rattle.tm_typed.specs.tm_terms.declared.refusals.Refusal.{Refusal}
use Rattle.tm_typed.specs.tm_terms.ExprTrees.{Tree}
use Rattle.tm_typed.specs.tm_trees.FileTrees.{PartTrees, FunctionTree, ItemTree, a_declaration, a_function}
use Rattle.tm_typed.specs.tm_trees.FileTrees.{an_empty_item, a_mutex, a_task}
use Rattle.tm_typed.specs.declared.scopes.Named.{Named}
use Rattle.tm_typed.specs.declared.scopes.Named.TheVariants as Names
use Rattle.tm_typed.specs.declared.scopes.Binding.{Binding}
use Rattle.tm_typed.specs.Scopes.{named_here}
use Rattle.tm_typed.specs.Refusals.{row, row_unless}
use Rattle.tm_typed.specs.WellTyped.{OnAnswer}
use Rattle.tm_typed.specs.States.{State, in_scope}
use Rattle.tm_typed.specs.Evaluation.{measured, folded_value}
use Rattle.tm_typed.specs.Specifiers.{base}
use Rattle.tm_typed.specs.Declarators.{declared_pointers}
use Rattle.tm_typed.specs.Structures.{is_declared_here, specified}
use Rattle.tm_typed.specs.Declarations.{linked, file_declaration}
use Rattle.tm_typed.specs.StatementTyping.{enter}
use Rattle.tm_typed.specs.CallGraph.{calls_in}
use Rattle.tm_typed.specs.Functions.{parameters_in, left_names, left_tags, to_file, entered_with, names_here, body_begins, Head, with_function, number_of, function_rules, FoundBody, body_in}
use Rattle.tm_typed.specs.Types.{void_number}
use Rattle.tm_typed.specs.Files.{FileState, first_file_state, declared_function, defined_function, head_of, with_body, headed, with_state, function_in, priority_of, task_scope, with_task, named_task_in, task_in, mutex_in, item_in, items_in}
use Rattle.typing_laws.proofs.Steps.{then_on, then_any, from_answer}

-- the calls stand by function, and each function that calls one is among the definitions
pub record IsKept (f : FileState) : Type 0 where
  pub same : length f.calls ≡ length f.functions
  pub defined : (k : ℕ) → 0 < length (calls_in f.calls k) → Contains f.definitions k

-- ## Lists of calls

AreDefined : List (List ℕ) → List ℕ → Type 0
AreDefined calls definitions = (k : ℕ) → 0 < length (get_or calls k (let none : List ℕ = [] in none)) → Contains definitions k

none_called : (calls : List (List ℕ)) (definitions : List ℕ) → AreDefined calls definitions → AreDefined (calls ++ [] ∷ []) definitions
unfolding AreDefined
none_called calls definitions h k l = elim (cases_lt k (length calls)) [
  | inl old ↦ h k (let P : List ℕ → Type 0 = λ xs. 0 < length xs in subst P (get_or_append_left calls ([] ∷ []) [] k old) l)
  | inr new ↦ absurd (
      let P : List ℕ → Type 0 = λ xs. 0 < length xs in
      let none : 0 < length (let e : List ℕ = [] in e) = subst P (at_end calls k new) l in
      omega (arith, none))
]
  where
    single : (i : ℕ) → get_or (let ls : List (List ℕ) = [] ∷ [] in ls) i (let none : List ℕ = [] in none) ≡ []
    single zero = refl
    single (suc i) = refl

    at_end : (calls : List (List ℕ)) (k : ℕ) → length calls ≤ k → get_or (calls ++ [] ∷ []) k (let none : List ℕ = [] in none) ≡ []
    at_end [] k m = single k
    at_end (c ∷ cs) zero m = absurd (omega (arith, m))
    at_end (c ∷ cs) (suc k) m = at_end cs k (omega (arith, m))

set_called : (calls : List (List ℕ)) (definitions : List ℕ) (j : ℕ) (callees : List ℕ) → AreDefined calls definitions → AreDefined (slice_set calls j callees) (definitions ++ j ∷ [])
unfolding AreDefined
set_called calls definitions j callees h k l = elim (cases_eq k j) [
  | inl e ↦ let P : ℕ → Type 0 = λ x. Contains (definitions ++ j ∷ []) x in subst P (sym e) (Contains-push definitions j)
  | inr n ↦ Contains-append_left definitions (j ∷ []) k (h k (let P : List ℕ → Type 0 = λ xs. 0 < length xs in subst P (get_or-set_other calls j k callees [] n) l))
]

more_called : (calls : List (List ℕ)) (definitions : List ℕ) (j : ℕ) (callees : List ℕ) → length calls ≡ j → AreDefined calls definitions → AreDefined (calls ++ callees ∷ []) (definitions ++ j ∷ [])
unfolding AreDefined
more_called calls definitions j callees same h k l = elim (cases_order k j) [
  | inl e ↦ let P : ℕ → Type 0 = λ x. Contains (definitions ++ j ∷ []) x in subst P (sym e) (Contains-push definitions j)
  | inr o ↦ elim o [
    | inl less ↦ Contains-append_left definitions (j ∷ []) k (h k (let P : List ℕ → Type 0 = λ xs. 0 < length xs in subst P (get_or_append_left calls (callees ∷ []) [] k (omega (arith, less, same))) l))
    | inr more ↦ absurd (
        let P : List ℕ → Type 0 = λ xs. 0 < length xs in
        let none : 0 < length (let e : List ℕ = [] in e) =
        subst P (get_or_past (calls ++ callees ∷ []) k [] (omega (arith, more, same, length-append calls (callees ∷ [])))) l in
        omega (arith, none))
  ]
]

-- ## Items

first_kept : IsKept first_file_state
first_kept = record { same = refl; defined = λ k l. absurd (nothing k l) }
  where
    nothing : (k : ℕ) → 0 < length (calls_in [] k) → ⊥
    nothing zero l = omega (arith, l)
    nothing (suc k) l = omega (arith, l)

state_kept : (f : FileState) (s : State) → IsKept f → IsKept (with_state f s)
state_kept f s h = record { same = h.same; defined = h.defined }

row_on : {A : Type 0} (P : A → Type 0) (b : Bool) (kind : Kind) (p : Place) (further : Result A Refusal) → OnAnswer P further → OnAnswer P (row b kind p further)
row_on P true kind p further h = tt
row_on P false kind p further h = h

row_unless_on : {A B : Type 0} (P : B → Type 0) (o : Option A) (kind : Kind) (p : Place) (further : A → Result B Refusal) → ((a : A) → OnAnswer P (further a)) → OnAnswer P (row_unless o kind p further)
row_unless_on P None kind p further h = tt
row_unless_on P (Some a) kind p further h = h a

new_declared : (f : FileState) (s : State) (h : Head) → IsKept f → IsKept (declared_function f s h None)
unfolding AreDefined
new_declared f s h k = record {
  same = omega (arith, k.same, length-append f.calls ([] ∷ []), length-append f.functions (record { name = h.name; place = h.place; result = h.result; parameters = h.parameters; body = None } ∷ []));
  defined = none_called f.calls f.definitions k.defined;
}

declared_kept : (f : FileState) (s : State) (h : Head) (already : Option Named) → IsKept f → IsKept (declared_function f s h already)
declared_kept f s h (Some (Names.Function n)) k = state_kept f s k
declared_kept f s h None k = new_declared f s h k
declared_kept f s h (Some _) k = new_declared f s h k

defined_kept : (f : FileState) (j : ℕ) (p : Place) (b : FoundBody) (s : State) → IsKept f → IsKept (defined_function f j p b s)
unfolding AreDefined
defined_kept f j p b s k = record {
  same = length-set f.calls j b.calls ∙ k.same ∙ sym (length-set f.functions j _);
  defined = set_called f.calls f.definitions j b.calls k.defined;
}

body_kept : (f : FileState) (names : List Binding) (j : ℕ) (h : Head) (body : Option PartTrees) → IsKept f → OnAnswer IsKept (with_body f names j h body)
body_kept f names j h None k = state_kept f (body_begins (in_scope f.state (left_tags f.state.scope))) k
body_kept f names j h (Some parts) k =
    then_any IsKept (body_in (in_scope f.state (entered_with names f.state.scope)) h.result parts) (λ b. Ok (defined_function f j h.place b (to_file b.state)))
    (λ b. defined_kept f j h.place b (to_file b.state) k)

headed_kept : (f : FileState) (names : List Binding) (h : Head) (body : Option PartTrees) → IsKept f → OnAnswer IsKept (headed f names h body)
headed_kept f names h body k =
    let already : Option Named = named_here f.state.scope h.name in
    body_kept (declared_function f (in_scope f.state (with_function f.state.scope h already)) h already) names (number_of f.state.scope already) h body
    (declared_kept f (in_scope f.state (with_function f.state.scope h already)) h already k)

function_kept : (f : FileState) (g : FunctionTree) → IsKept f → OnAnswer IsKept (function_in f g)
function_kept f g k =
    then_any IsKept (specified f.state g.specifiers) _ (λ m.
    let result = declared_pointers m.1 (base m.0) g.pointers in
    then_any IsKept (parameters_in (enter (body_begins result.1)) g.parameters) _ (λ s.
    let h = head_of g result.0 s.locals in
    let t = in_scope s (left_names s.scope) in
    then_any IsKept (function_rules t h m.0.storage result.0) _ (λ u.
    headed_kept (with_state f t) (names_here s.scope) h g.body (state_kept f t k))))

task_added : (f : FileState) (priority : ℕ) (n : Name) (q : Place) (b : FoundBody) (s : State) → IsKept f → IsKept (with_task f priority n q b s)
unfolding AreDefined
task_added f priority n q b s k = record {
  same = omega (arith, k.same, length-append f.calls (b.calls ∷ []), length-append f.functions (record { name = n; place = q; result = void_number; parameters = []; body = Some b.body } ∷ []));
  defined = more_called f.calls f.definitions (length f.functions) b.calls k.same k.defined;
}

named_task_kept : (f : FileState) (priority : ℕ) (n : Name) (q : Place) (parts : PartTrees) → IsKept f → OnAnswer IsKept (named_task_in f priority n q parts)
named_task_kept f priority n q parts k =
    row_on IsKept (is_declared_here f.state n || is_some (linked f.state n)) Kinds.Redeclared q _
    (then_any IsKept (body_in (enter (body_begins (in_scope f.state (task_scope f.state.scope n)))) void_number parts) _
    (λ b. task_added f priority n q b (to_file b.state) k))

task_kept : (f : FileState) (t : Tree) (n : Name) (q : Place) (parts : PartTrees) (p : Place) → IsKept f → OnAnswer IsKept (task_in f t n q parts p)
task_kept f t n q parts p k =
    then_any IsKept (measured f.state t) _ (λ m.
    row_unless_on IsKept (priority_of (folded_value m.0)) Kinds.BadTask p _ (λ priority.
    named_task_kept (with_state f m.1) priority n q parts (state_kept f m.1 k)))

mutex_kept : (f : FileState) (n : Name) (p : Place) → IsKept f → OnAnswer IsKept (mutex_in f n p)
mutex_kept f n p k = row_on IsKept (is_declared_here f.state n) Kinds.Redeclared p _ (record { same = k.same; defined = k.defined })

item_kept : (f : FileState) (i : ItemTree) → IsKept f → OnAnswer IsKept (item_in f i)
item_kept f (a_declaration d) k = then_any IsKept (file_declaration f.state d) (λ s. Ok (with_state f s)) (λ s. state_kept f s k)
item_kept f (a_function g) k = function_kept f g k
item_kept f an_empty_item k = k
item_kept f (a_mutex n p) k = mutex_kept f n p k
item_kept f (a_task t n q parts p) k = task_kept f t n q parts p k

items_kept : (f : FileState) (is : List ItemTree) → IsKept f → OnAnswer IsKept (items_in f is)
items_kept f [] k = k
items_kept f (i ∷ is) k = then_on IsKept IsKept (item_in f i) (λ g. items_in g is) (item_kept f i k) (λ g. items_kept g is)

-- what the items of a file give is kept so
pub file_kept : (items : List ItemTree) → OnAnswer IsKept (items_in first_file_state items)
file_kept items = items_kept first_file_state items first_kept

pub calls_are_defined : (items : List ItemTree) (f : FileState) → items_in first_file_state items ≡ Ok f → (k : ℕ) → 0 < length (calls_in f.calls k) → Contains f.definitions k
calls_are_defined items f e = (from_answer IsKept (items_in first_file_state items) f (file_kept items) e).defined
