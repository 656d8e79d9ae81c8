-- In the bodies that the items of a file give jumps stand where they may, a `switch` has at most one `default`, and a
-- `for` begins with an expression or a declaration.
use Rattle.std.proofs.Common.{List, [], ◌∷◌, ℕ}
use Rattle.std.specs.Prelude.{All, Option, Some, None, Result, Ok, Err, is_some, ◌||◌}
use Rattle.std.proofs.lemmas.List.Elements.{All-nil, All-push, All-set}
use Rattle.call_graph.specs.tm_terms.declared.places.Place.{Place}
use Rattle.call_graph.specs.tm_terms.declared.tokens.Name.{Name}
use Rattle.call_graph.specs.tm_terms.declared.refusals.Kind.TheVariants as Kinds
use Rattle.call_graph.specs.tm_terms.declared.refusals.Refusal.{Refusal}
use Rattle.call_graph.specs.tm_terms.ExprTrees.{Tree}
use Rattle.call_graph.specs.tm_trees.FileTrees.{PartTree, a_local, a_step, PartTrees, no_parts, and_part, FunctionTree}
use Rattle.call_graph.specs.tm_trees.FileTrees.{ItemTree}
use Rattle.call_graph.specs.tm_trees.FileTrees.{a_declaration, a_function, an_empty_item, a_mutex, a_task}
use Rattle.call_graph.specs.tm_typed.declared.scopes.Named.{Named}
use Rattle.call_graph.specs.tm_typed.declared.scopes.Named.TheVariants as Names
use Rattle.call_graph.specs.tm_typed.declared.scopes.Binding.{Binding}
use Rattle.call_graph.specs.tm_typed.Types.{void_number}
use Rattle.call_graph.specs.tm_typed.Scopes.{named_here}
use Rattle.call_graph.specs.tm_typed.Refusals.{then_with}
use Rattle.call_graph.specs.tm_typed.WellTyped.{OnAnswer}
use Rattle.call_graph.specs.tm_typed.States.{State, in_scope}
use Rattle.call_graph.specs.tm_typed.Evaluation.{measured, folded_value}
use Rattle.call_graph.specs.tm_typed.Specifiers.{base}
use Rattle.call_graph.specs.tm_typed.Declarators.{declared_pointers}
use Rattle.call_graph.specs.tm_typed.Structures.{is_declared_here, specified}
use Rattle.call_graph.specs.tm_typed.Declarations.{linked, local_declaration, file_declaration}
use Rattle.call_graph.specs.tm_typed.TypedStatements.{TypedTree, declares, TypedTrees, and_statement}
use Rattle.call_graph.specs.tm_typed.StatementRules.{Around, in_body}
use Rattle.call_graph.specs.tm_typed.StatementTyping.{enter, statement_in, part_in, parts_in}
use Rattle.call_graph.specs.tm_typed.Functions.{parameters_in, left_names, left_tags, to_file, entered_with, names_here}
use Rattle.call_graph.specs.tm_typed.Functions.{body_begins, Head, with_function, number_of, function_rules}
use Rattle.call_graph.specs.tm_typed.Functions.{TypedBodyTree}
use Rattle.call_graph.specs.tm_typed.Functions.{FoundBody, body_in}
use Rattle.call_graph.specs.tm_typed.Files.{TypedFunctionTree, FileState, first_file_state, typed_function}
use Rattle.call_graph.specs.tm_typed.Files.{declared_function}
use Rattle.call_graph.specs.tm_typed.Files.{defined_function, head_of, with_body, headed, with_state, function_in}
use Rattle.call_graph.specs.tm_typed.Files.{priority_of}
use Rattle.call_graph.specs.tm_typed.Files.{task_scope, with_task, named_task_in, task_in, mutex_in, item_in, items_in}
use Rattle.typed_file_laws.specs.typing_laws.Placement.{ArePlaced, AreAllPlaced, HaveLabels, HaveAllLabels}
use Rattle.typed_file_laws.proofs.low.typing_laws.Steps.{then_on, then_any}
use Rattle.typed_file_laws.proofs.low.typing_laws.Jumps.{placed}
use Rattle.typed_file_laws.proofs.low.typing_laws.Labels.{labelled}
use Rattle.typed_file_laws.proofs.RuleSteps.{on_row, on_row_unless, some_any}
use Rattle.lowering_laws.proofs.Firsts.{HaveAllFirsts, all_found}

-- the statements of a body, of a function with a result of some type
pub record IsPlacedBody (body : TypedBodyTree) : Type 0 where
  pub result : ℕ
  pub jumps : AreAllPlaced (in_body result) body.statements
  pub labels : HaveAllLabels body.statements
  pub firsts : HaveAllFirsts body.statements

abbrev pub IsPlacedIn : Option TypedBodyTree → Type 0
IsPlacedIn None = Unit {0}
IsPlacedIn (Some body) = IsPlacedBody body

abbrev pub IsPlacedFunction : TypedFunctionTree → Type 0
IsPlacedFunction f = IsPlacedIn f.body

-- ## Statements

abbrev PartPlaced : Around → TypedTree × State → Type 0
PartPlaced around a = ArePlaced around a.0 × HaveLabels a.0

abbrev PartsPlaced : Around → TypedTrees × State → Type 0
PartsPlaced around a = AreAllPlaced around a.0 × HaveAllLabels a.0

on_both : {A : Type 0} (P Q : A → Type 0) (r : Result A Refusal) → OnAnswer P r → OnAnswer Q r
    → OnAnswer (λ (a : A). P a × Q a) r
on_both P Q (Err e) h k = tt
on_both P Q (Ok a) h k = (h, k)

part_placed : (s : State) (around : Around) (part : PartTree) → OnAnswer (PartPlaced around) (part_in s around part)
part_placed s around (a_local d) =
    then_any (PartPlaced around) (local_declaration s d) (λ a. Ok (declares a.0, a.1)) (λ a. (tt, tt))
part_placed s around (a_step t) =
    on_both (λ (a : TypedTree × State). ArePlaced around a.0) (λ (a : TypedTree × State). HaveLabels a.0)
    (statement_in s around t) (placed s around t) (labelled s around t)

parts_placed : (s : State) (around : Around) (parts : PartTrees)
    → OnAnswer (PartsPlaced around) (parts_in s around parts)
parts_placed s around no_parts = (tt, tt)
parts_placed s around (and_part part parts) =
    then_on (PartPlaced around) (PartsPlaced around) (part_in s around part)
    (λ a. then_with (parts_in a.1 around parts) (λ b. Ok (and_statement a.0 b.0, b.1))) (part_placed s around part)
    (λ a h. then_on (PartsPlaced around) (PartsPlaced around) (parts_in a.1 around parts)
    (λ b. Ok (and_statement a.0 b.0, b.1)) (parts_placed a.1 around parts) (λ b i. ((h.0, i.0), (h.1, i.1))))

abbrev FoundPlaced : FoundBody → Type 0
FoundPlaced b = IsPlacedBody b.body

abbrev PartsBegin : Around → TypedTrees × State → Type 0
PartsBegin around a = PartsPlaced around a × HaveAllFirsts a.0

body_placed : (s : State) (result : ℕ) (parts : PartTrees) → OnAnswer FoundPlaced (body_in s result parts)
body_placed s result parts =
    then_on (PartsBegin (in_body result)) FoundPlaced (parts_in s (in_body result) parts) _
    (on_both (PartsPlaced (in_body result)) (λ (a : TypedTrees × State). HaveAllFirsts a.0)
    (parts_in s (in_body result) parts) (parts_placed s (in_body result) parts)
    (all_found s (in_body result) parts))
    (λ b h. record { result = result; jumps = h.0.0; labels = h.0.1; firsts = h.1 })

-- ## Items

pub record ArePlacedBodies (f : FileState) : Type 0 where
  pub bodies : All IsPlacedFunction f.functions

first_placed : ArePlacedBodies first_file_state
first_placed = record { bodies = All-nil IsPlacedFunction }

state_placed : (f : FileState) (s : State) → ArePlacedBodies f → ArePlacedBodies (with_state f s)
state_placed f s h = record { bodies = h.bodies }

new_placed : (f : FileState) (s : State) (h : Head) → ArePlacedBodies f
    → ArePlacedBodies (declared_function f s h None)
new_placed f s h k = record { bodies = All-push IsPlacedFunction f.functions _ k.bodies tt }

declared_placed : (f : FileState) (s : State) (h : Head) (already : Option Named) → ArePlacedBodies f
    → ArePlacedBodies (declared_function f s h already)
declared_placed f s h (Some (Names.Function n)) k = state_placed f s k
declared_placed f s h None k = new_placed f s h k
declared_placed f s h (Some _) k = new_placed f s h k

defined_placed : (f : FileState) (j : ℕ) (p : Place) (b : FoundBody) (s : State) → FoundPlaced b → ArePlacedBodies f
    → ArePlacedBodies (defined_function f j p b s)
defined_placed f j p b s h k = record {
  bodies = All-set IsPlacedFunction f.functions j (record (typed_function f j) { place = p; body = Some b.body }) h
      k.bodies;
}

with_body_placed : (f : FileState) (names : List Binding) (j : ℕ) (h : Head) (body : Option PartTrees)
    → ArePlacedBodies f → OnAnswer ArePlacedBodies (with_body f names j h body)
with_body_placed f names j h None k = state_placed f (body_begins (in_scope f.state (left_tags f.state.scope))) k
with_body_placed f names j h (Some parts) k =
    let v : State = in_scope f.state (entered_with names f.state.scope) in
    then_on FoundPlaced ArePlacedBodies (body_in v h.result parts)
    (λ b. Ok (defined_function f j h.place b (to_file b.state))) (body_placed v h.result parts)
    (λ b i. defined_placed f j h.place b (to_file b.state) i k)

headed_placed : (f : FileState) (names : List Binding) (h : Head) (body : Option PartTrees) → ArePlacedBodies f
    → OnAnswer ArePlacedBodies (headed f names h body)
headed_placed f names h body k =
    let already : Option Named = named_here f.state.scope h.name in
    let t : State = in_scope f.state (with_function f.state.scope h already) in
    with_body_placed (declared_function f t h already) names (number_of f.state.scope already) h body
    (declared_placed f t h already k)

function_placed : (f : FileState) (g : FunctionTree) → ArePlacedBodies f → OnAnswer ArePlacedBodies (function_in f g)
function_placed f g k =
    then_any ArePlacedBodies (specified f.state g.specifiers) _ (λ m.
    let result = declared_pointers m.1 (base m.0) g.pointers in
    then_any ArePlacedBodies (parameters_in (enter (body_begins result.1)) g.parameters) _ (λ s.
    let h = head_of g result.0 s.locals in
    let t = in_scope s (left_names s.scope) in
    then_any ArePlacedBodies (function_rules t h m.0.storage result.0) _ (λ u.
    headed_placed (with_state f t) (names_here s.scope) h g.body (state_placed f t k))))

task_added : (f : FileState) (priority : ℕ) (n : Name) (q : Place) (b : FoundBody) (s : State) → FoundPlaced b
    → ArePlacedBodies f → ArePlacedBodies (with_task f priority n q b s)
task_added f priority n q b s h k = record { bodies = All-push IsPlacedFunction f.functions _ k.bodies h }

named_task_placed : (f : FileState) (priority : ℕ) (n : Name) (q : Place) (parts : PartTrees) → ArePlacedBodies f
    → OnAnswer ArePlacedBodies (named_task_in f priority n q parts)
named_task_placed f priority n q parts k =
    let v : State = enter (body_begins (in_scope f.state (task_scope f.state.scope n))) in
    on_row ArePlacedBodies (is_declared_here f.state n || is_some (linked f.state n)) Kinds.Redeclared q _ (λ e.
    then_on FoundPlaced ArePlacedBodies (body_in v void_number parts) _ (body_placed v void_number parts)
    (λ b i. task_added f priority n q b (to_file b.state) i k))

task_placed : (f : FileState) (t : Tree) (n : Name) (q : Place) (parts : PartTrees) (p : Place) → ArePlacedBodies f
    → OnAnswer ArePlacedBodies (task_in f t n q parts p)
task_placed f t n q parts p k =
    then_any ArePlacedBodies (measured f.state t) _ (λ m.
    on_row_unless (λ (i : ℕ). Unit {0}) ArePlacedBodies (priority_of (folded_value m.0)) Kinds.BadTask p _
    (some_any (priority_of (folded_value m.0))) (λ priority i.
    named_task_placed (with_state f m.1) priority n q parts (state_placed f m.1 k)))

mutex_placed : (f : FileState) (n : Name) (p : Place) → ArePlacedBodies f → OnAnswer ArePlacedBodies (mutex_in f n p)
mutex_placed f n p k =
    on_row ArePlacedBodies (is_declared_here f.state n) Kinds.Redeclared p _ (λ e. record { bodies = k.bodies })

item_placed : (f : FileState) (i : ItemTree) → ArePlacedBodies f → OnAnswer ArePlacedBodies (item_in f i)
item_placed f (a_declaration d) k =
    then_any ArePlacedBodies (file_declaration f.state d) (λ s. Ok (with_state f s)) (λ s. state_placed f s k)
item_placed f (a_function g) k = function_placed f g k
item_placed f an_empty_item k = k
item_placed f (a_mutex n p) k = mutex_placed f n p k
item_placed f (a_task t n q parts p) k = task_placed f t n q parts p k

items_placed : (f : FileState) (is : List ItemTree) → ArePlacedBodies f → OnAnswer ArePlacedBodies (items_in f is)
items_placed f [] k = k
items_placed f (i ∷ is) k =
    then_on ArePlacedBodies ArePlacedBodies (item_in f i) (λ g. items_in g is) (item_placed f i k)
    (λ g. items_placed g is)

pub file_placed : (items : List ItemTree) → OnAnswer ArePlacedBodies (items_in first_file_state items)
file_placed items = items_placed first_file_state items first_placed
