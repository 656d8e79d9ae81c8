-- The bodies of typed files are regular, and what their initialisers give fits.
use Rattle.std.proofs.Common.{◌≡◌, ℕ, zero, suc, inl, inr, List, [], ◌∷◌, ◌++◌, length, get_or, refl, sym, subst}
use Rattle.std.proofs.Common.{ap, ◌∙◌, arith}
use Rattle.std.specs.Prelude.{Bool, cond, find, option_map, true, false, ◌||◌, is_some, All}
use Rattle.std.specs.Prelude.{slice_get, Option, Some}
use Rattle.std.specs.Prelude.{None, Result, Ok, Err}
use Rattle.std.proofs.lemmas.Bool.{not-false, cases_lt}
use Rattle.std.proofs.lemmas.Option.{none-some, same_Some}
use Rattle.std.proofs.lemmas.List.{length-append, append-nil, get_or_past}
use Rattle.std.proofs.lemmas.List.Elements.{All-weaker, All-nil, All-push}
use Rattle.std.proofs.lemmas.List.Elements.{All-get_or}
use Rattle.cell_layout.specs.tm_terms.declared.places.Place.{Place}
use Rattle.cell_layout.specs.tm_terms.declared.tokens.Name.{Name}
use Rattle.cell_layout.specs.tm_terms.declared.refusals.Kind.TheVariants as Kinds
use Rattle.cell_layout.specs.tm_terms.declared.refusals.Refusal.{Refusal}
use Rattle.cell_layout.specs.tm_terms.ExprTrees.{Tree}
use Rattle.cell_layout.specs.tm_trees.FileTrees.{PartTrees, ItemTree, a_declaration, a_function}
use Rattle.cell_layout.specs.tm_trees.FileTrees.{an_empty_item}
use Rattle.cell_layout.specs.tm_trees.FileTrees.{a_mutex, a_task}
use Rattle.cell_layout.specs.tm_typed.declared.types.Scalar.{Scalar}
use Rattle.cell_layout.specs.tm_typed.declared.types.Scalar.TheVariants as Scalars
use Rattle.cell_layout.specs.tm_typed.declared.scopes.Binding.{Binding}
use Rattle.cell_layout.specs.tm_typed.declared.scopes.Named.TheVariants as Names
use Rattle.cell_layout.specs.tm_typed.declared.files.LocalEntry.{LocalEntry}
use Rattle.cell_layout.specs.tm_typed.declared.files.MutexEntry.{MutexEntry}
use Rattle.cell_layout.specs.tm_typed.declared.files.StaticCell.{StaticCell}
use Rattle.cell_layout.specs.tm_typed.declared.files.StaticValue.{StaticValue}
use Rattle.cell_layout.specs.tm_typed.declared.files.StaticValue.TheVariants as Values
use Rattle.cell_layout.specs.tm_typed.declared.uses.Use.{Use}
use Rattle.cell_layout.specs.tm_typed.declared.uses.Used.{Used}
use Rattle.cell_layout.specs.tm_typed.declared.uses.Used.TheVariants as Uses
use Rattle.cell_layout.specs.tm_typed.Types.{void_number}
use Rattle.cell_layout.specs.tm_laid.Layable.{tables_of}
use Rattle.cell_layout.specs.tm_typed.Scopes.{cells_of, Scope, Function}
use Rattle.cell_layout.specs.tm_typed.Operands.{scalar_of}
use Rattle.cell_layout.specs.tm_typed.Refusals.{then_with}
use Rattle.cell_layout.specs.tm_typed.States.{State, Static, no_static, static, in_scope, with_name}
use Rattle.cell_layout.specs.tm_typed.Evaluation.{measured, folded_value}
use Rattle.cell_layout.specs.tm_typed.Structures.{is_declared_here}
use Rattle.cell_layout.specs.tm_typed.Declarations.{linked, file_declaration}
use Rattle.cell_layout.specs.tm_typed.TypedTrees.{OperandTree}
use Rattle.cell_layout.specs.tm_typed.Functions.{to_file}
use Rattle.cell_layout.specs.tm_typed.Functions.{TypedBodyTree, FoundBody}
use Rattle.cell_layout.specs.tm_typed.Functions.{body_in}
use Rattle.cell_layout.specs.tm_typed.Files.{TypedFunctionTree, FileState, first_file_state, no_typed_function}
use Rattle.cell_layout.specs.tm_typed.Files.{typed_function}
use Rattle.cell_layout.specs.tm_typed.Files.{with_state}
use Rattle.cell_layout.specs.tm_typed.Files.{priority_of, task_scope, with_task, named_task_in, task_in, mutex_in}
use Rattle.cell_layout.specs.tm_typed.Files.{item_in}
use Rattle.cell_layout.specs.tm_typed.Files.{items_in, TypedFileTree, file_of, is_undefined, undefined_use, Closes}
use Rattle.cell_layout.specs.tm_typed.Files.{Ends}
use Rattle.cell_layout.specs.tm_typed.WellTyped.{OnAnswer, Context}
use Rattle.typed_file_laws.specs.Tables.{IsType}
use Rattle.typed_file_laws.specs.Lawful.{IsBound, IsFunction, IsLawfulState}
use Rattle.typed_file_laws.specs.LawfulFiles.{body_context, IsLawfulFile}
use Rattle.typed_file_laws.specs.TypedBodies.{file_context}
use Rattle.typed_file_laws.proofs.low.typing_laws.Steps.{then_on, from_answer}
use Rattle.typed_file_laws.proofs.RuleSteps.{on_row, on_row_unless, some_any}
use Rattle.typed_file_laws.proofs.TableGrowth.{TablesGrow}
use Rattle.typed_file_laws.proofs.TypeShapes.{void_is_type}
use Rattle.typed_file_laws.proofs.StateSteps.{rescoped_lawful, rescoped_grows, Keeps, all_bound, all_linked}
use Rattle.typed_file_laws.proofs.StateSteps.{all_uses, functions_stay, statics_stay, locals_stay}
use Rattle.typed_file_laws.proofs.StateSteps.{measured_continues, Evaluates}
use Rattle.typed_file_laws.proofs.SameLocals.{measured_locals}
use Rattle.typed_file_laws.proofs.FunctionSteps.{got_function, same_function, Builds, builds_on}
use Rattle.typed_file_laws.proofs.FunctionSteps.{builds_by, viewed, builds_view, builds_keep, viewed_lawful}
use Rattle.typed_file_laws.proofs.FileSteps.{both, Ended, body_ends, mutexes_of, state_lawful}
use Rattle.typed_file_laws.proofs.ItemSteps.{file_lawful}
use Rattle.next_action_laws.specs.Regular.{AreParameters, IsRegularBody, AreRegularBodies}
use Rattle.next_action_laws.specs.Laws.{BodiesAreRegular}
use Rattle.next_action_laws.specs.InitialValues.{IsValueFor, IsFilled, AreFilled, InitialValuesFit}
use Rattle.next_action_laws.proofs.RegularCells.{cell_stays}
use Rattle.next_action_laws.proofs.SameStatics.{kept_in, measured_same}
use Rattle.next_action_laws.proofs.StaticMentions.{Passes, UsesPass}
use Rattle.next_action_laws.proofs.FilledStates.{ValueIn, IsFilledIn, IsFilledObject, AreFilledIn}
use Rattle.next_action_laws.proofs.FilledStates.{cells_grow}
use Rattle.next_action_laws.proofs.FilledStates.{Further, further_same}
use Rattle.next_action_laws.proofs.FilledDeclarations.{file_declaration_further}
use Rattle.next_action_laws.proofs.RegularStatements.{all_stay}
use Rattle.next_action_laws.proofs.RegularFunctions.{parameters_are, OnRegular, IsRegularIn, IsRegularFile}
use Rattle.next_action_laws.proofs.RegularFunctions.{same_filled, functions_stay_regular, BodyTold, body_told}
use Rattle.next_action_laws.proofs.RegularFunctions.{function_regular}

-- ## Tasks

abbrev task_function : Function
task_function = record { result = void_number; parameters = []; defined = true }

task_state : (m : ℕ) (s : State) (n : Name) → IsLawfulState m s → IsLawfulState m (in_scope s (task_scope s.scope n))
    × Builds s (in_scope s (task_scope s.scope n))
task_state m s n l =
    let v : Scope = s.scope in
    let fs : List Function = v.functions ++ task_function ∷ [] in
    let b : Binding = record { name = n; named = Names.Task } in
    let t : State = in_scope s (task_scope v n) in
    let g : TablesGrow v t.scope = rescoped_grows v (v.names ++ b ∷ []) v.tags v.outer_names v.outer_tags fs in
    let longer = length-append v.functions (task_function ∷ []) in
    let k : Keeps s t = record {
      grown = g;
      functions = omega (arith, longer);
      objects = λ o n e. e;
      statics = omega arith;
    } in (
      record {
        tables = rescoped_lawful v (v.names ++ b ∷ []) v.tags v.outer_names v.outer_tags fs l.tables l.tables.tags;
        names = All-push (λ (b : Binding). IsBound m t b.named) v.names b (all_bound m s t k v.names l.names) tt;
        linkage = all_linked s t k s.linkage l.linkage;
        functions = All-push (IsFunction t.scope) v.functions task_function
            (functions_stay v t.scope g v.functions l.functions)
            (record { result = void_is_type v l.tables; parameters = All-nil (IsType t.scope) });
        statics = statics_stay v t.scope g s.statics l.statics;
        locals = locals_stay v t.scope g s.locals l.locals;
        uses = all_uses s t k s.uses l.uses;
        constants = l.constants;
        labels = l.labels;
      },
      record {
        grown = g;
        count = omega (arith, longer);
        functions = λ n x e. (x, got_function v.functions (task_function ∷ []) n x e, same_function x);
        objects = λ k n e. e;
        statics = omega arith;
      },
    )

named_task_regular : (f : FileState) (priority : ℕ) (n : Name) (q : Place) (parts : PartTrees) → IsLawfulFile f
    → IsRegularFile f → OnAnswer IsRegularFile (named_task_in f priority n q parts)
named_task_regular f priority n q parts h r =
    let m : ℕ = mutexes_of f in
    let s : State = in_scope f.state (task_scope f.state.scope n) in
    let a = task_state m f.state n h.state in
    let v : State = viewed s s.scope.names s.scope.tags (length s.scope.names) (length s.scope.tags) [] 0 in
    let b : Builds s v = builds_view s s.scope.names s.scope.tags (length s.scope.names) (length s.scope.tags) [] 0 in
    let good : IsLawfulState m v =
    viewed_lawful m s s.scope.names s.scope.tags (length s.scope.names) (length s.scope.tags) [] 0 a.0
    (all_bound m s v (builds_keep s v h.locals b) s.scope.names a.0.names) a.0.tables.tags
    (All-nil (λ (o : LocalEntry). IsType s.scope o.of.number)) in
    on_row IsRegularFile (is_declared_here f.state n || is_some (linked f.state n)) Kinds.Redeclared q _ (λ x.
    then_on (λ (y : FoundBody). Ended m s void_number y × BodyTold m v y) IsRegularFile (body_in v void_number parts) _
    (both (Ended m s void_number) (BodyTold m v) (body_in v void_number parts)
    (body_ends m s v [] void_number parts a.0 h.locals good b refl (sym (append-nil s.scope.names)) refl
    (void_is_type v.scope good.tables)) (body_told m v void_number parts good)) (λ y e.
    let g : FileState = with_task f priority n q y (to_file y.state) in
    let x : TypedFunctionTree =
    record { name = n; place = q; result = void_number; parameters = []; body = Some y.body } in (
      All-push (IsRegularIn g) f.functions x
          (functions_stay_regular f g h.state.tables (builds_on f.state s (to_file y.state) a.1 e.0.builds).grown
          f.functions r.0) (tt, e.1.statements),
      e.1.filled (same_filled s v a.0.tables b.grown refl refl
          (same_filled f.state s h.state.tables a.1.grown refl refl r.1)),
    )))

task_regular : (f : FileState) (t : Tree) (n : Name) (q : Place) (parts : PartTrees) (p : Place) → IsLawfulFile f
    → IsRegularFile f → OnAnswer IsRegularFile (task_in f t n q parts p)
task_regular f t n q parts p h r =
    let m : ℕ = mutexes_of f in
    then_on (λ (a : OperandTree × State). (Evaluates m f.state a × (a.1.locals ≡ f.state.locals))
    × (kept_in a.1 ≡ kept_in f.state)) IsRegularFile (measured f.state t) _
    (both (λ (a : OperandTree × State). Evaluates m f.state a × (a.1.locals ≡ f.state.locals))
    (λ (a : OperandTree × State). kept_in a.1 ≡ kept_in f.state) (measured f.state t)
    (both (Evaluates m f.state) (λ (a : OperandTree × State). a.1.locals ≡ f.state.locals) (measured f.state t)
    (measured_continues m f.state t h.state) (measured_locals f.state t)) (measured_same f.state t)) (λ a told.
    let x = told.0 in
    on_row_unless (λ (k : ℕ). Unit {0}) IsRegularFile (priority_of (folded_value a.0)) Kinds.BadTask p
    _ (some_any (priority_of (folded_value a.0))) (λ priority i.
    named_task_regular (with_state f a.1) priority n q parts
    (state_lawful f a.1 h x.0.0.lawful (builds_by m f.state a.1 x.0.0) (x.1 ∙ h.locals) x.0.0.functions) (
      functions_stay_regular f (with_state f a.1) h.state.tables x.0.0.keeps.grown f.functions r.0,
      (further_same m f.state a.1 h.state x.0.0 told.1).filled r.1,
    )))

-- ## Items

mutex_regular : (f : FileState) (n : Name) (p : Place) → IsLawfulFile f → IsRegularFile f
    → OnAnswer IsRegularFile (mutex_in f n p)
mutex_regular f n p h r =
    let x : MutexEntry = record { name = n; place = p } in
    let t : State = in_scope f.state (with_name n (Names.Mutex (length f.mutexes)) f.state.scope) in
    let g : FileState = record f { state = t; mutexes = f.mutexes ++ x ∷ [] } in
    let same : TablesGrow f.state.scope t.scope =
    record {
      more = [];
      types = sym (append-nil f.state.scope.types);
      count = omega arith;
      structures = λ k e. refl;
    } in
    on_row IsRegularFile (is_declared_here f.state n) Kinds.Redeclared p (Ok g)
    (λ e. (
      functions_stay_regular f g h.state.tables same f.functions r.0,
      same_filled f.state t h.state.tables same refl refl r.1,
    ))

item_regular : (f : FileState) (i : ItemTree) → IsLawfulFile f → IsRegularFile f → OnAnswer IsRegularFile (item_in f i)
item_regular f (a_declaration d) h r =
    then_on (Further (mutexes_of f) f.state) IsRegularFile (file_declaration f.state d) (λ s. Ok (with_state f s))
    (file_declaration_further (mutexes_of f) f.state d h.state) (λ t c. (
      functions_stay_regular f (with_state f t) h.state.tables c.keeps.grown f.functions r.0,
      c.filled r.1,
    ))
item_regular f (a_function g) h r = function_regular f g h r
item_regular f an_empty_item h r = r
item_regular f (a_mutex n p) h r = mutex_regular f n p h r
item_regular f (a_task t n q parts p) h r = task_regular f t n q parts p h r

-- items behind others
behind_by : (r : Result FileState Refusal) (is js : List ItemTree)
    → ((g : FileState) → items_in g (is ++ js) ≡ then_with (items_in g is) (λ x. items_in x js))
    → then_with r (λ g. items_in g (is ++ js)) ≡ then_with (then_with r (λ g. items_in g is)) (λ g. items_in g js)
behind_by (Err e) is js h = refl
behind_by (Ok g) is js h = h g

items_behind : (is js : List ItemTree) (f : FileState)
    → items_in f (is ++ js) ≡ then_with (items_in f is) (λ g. items_in g js)
items_behind [] js f = refl
items_behind (i ∷ is) js f = behind_by (item_in f i) is js (items_behind is js)

next_item : (before : List ItemTree) (f g : FileState) (i : ItemTree) → items_in first_file_state before ≡ Ok f
    → item_in f i ≡ Ok g → items_in first_file_state (before ++ i ∷ []) ≡ Ok g
next_item before f g i e q =
    items_behind before (i ∷ []) first_file_state ∙ ap (λ x. then_with x (λ y. items_in y (i ∷ []))) e
    ∙ ap (λ x. then_with x (λ y. items_in y [])) q

items_by : (before : List ItemTree) (f : FileState) (i : ItemTree) (is : List ItemTree)
    → items_in first_file_state before ≡ Ok f
    → ((b : List ItemTree) (g : FileState) → items_in first_file_state b ≡ Ok g → IsRegularFile g
    → OnAnswer IsRegularFile (items_in g is))
    → (a : Result FileState Refusal) → item_in f i ≡ a → OnAnswer IsRegularFile a
    → OnAnswer IsRegularFile (then_with a (λ g. items_in g is))
items_by before f i is e rest (Err x) q h = tt
items_by before f i is e rest (Ok g) q h = rest (before ++ i ∷ []) g (next_item before f g i e q) h

items_regular : (is before : List ItemTree) (f : FileState) → items_in first_file_state before ≡ Ok f → IsRegularFile f
    → OnAnswer IsRegularFile (items_in f is)
items_regular [] before f e r = r
items_regular (i ∷ is) before f e r =
    items_by before f i is e (λ b g q h. items_regular is b g q h) (item_in f i) refl
    (item_regular f i (from_answer IsLawfulFile (items_in first_file_state before) f (file_lawful before) e) r)

-- ## Whole files

same_parameters : (v w : Scope) → ((n : ℕ) → scalar_of w n ≡ scalar_of v n) → (ns : List ℕ) (ls : List LocalEntry)
    → AreParameters v ns ls → AreParameters w ns ls
same_parameters v w s [] ls h = tt
same_parameters v w s (n ∷ ns) [] h = absurd h
same_parameters v w s (n ∷ ns) (l ∷ ls) h = (s l.of.number ∙ h.0 ∙ sym (s n), same_parameters v w s ns ls h.1)

regular_by : (f : FileState) (main : Option Name) → IsLawfulFile f → IsRegularFile f → (k : ℕ) (b : TypedBodyTree)
    → (typed_function f k).body ≡ Some b → IsRegularBody (file_of f main) (typed_function f k) b
regular_by f main h r k b e = elim (cases_lt k (length f.functions)) [
  | inr ge ↦ absurd (none-some b
      (sym (ap (λ (x : TypedFunctionTree). x.body) (get_or_past f.functions k no_typed_function ge)) ∙ e))
  | inl lt ↦
      (let x : TypedFunctionTree = typed_function f k in
      let y : OnRegular f x (Some b) =
      subst (λ (o : Option TypedBodyTree). OnRegular f x o) e
      (All-get_or (IsRegularIn f) f.functions k no_typed_function lt r.0) in
      let w : Context = file_context (file_of f main) b.locals in
      let same : TablesGrow f.state.scope w.scope =
      record {
        more = [];
        types = sym (append-nil f.state.scope.types);
        count = omega arith;
        structures = λ j z. refl;
      } in
      record {
        parameters = same_parameters f.state.scope w.scope (λ n. refl) x.parameters b.locals
            (parameters_are f.state.scope h.state.tables x.parameters b.locals y.0);
        statements = all_stay (body_context f b.locals) w
            (record { lawful = h.state.tables; grown = same; objects = λ j n z. z }) false false b.statements y.1;
      })
]

abbrev Both : FileState → Type 0
Both f = IsLawfulFile f × IsRegularFile f

file_regular : (items : List ItemTree) → OnAnswer Both (items_in first_file_state items)
file_regular items =
    both IsLawfulFile IsRegularFile (items_in first_file_state items) (file_lawful items)
    (items_regular items [] first_file_state refl (
      All-nil (IsRegularIn first_file_state),
      All-nil (IsFilledObject
          (let f : FileState = first_file_state in f.state)),
    ))

refused_is : (answer : Result TypedFileTree Refusal) (r : Refusal) → answer ≡ Err r → OnAnswer AreRegularBodies answer
refused_is answer r e = subst (λ x. OnAnswer AreRegularBodies x) (sym e) tt

closes_by : (f : FileState) (main : Option Name) (answer : Result TypedFileTree Refusal) (o : Option Place) → Both f
    → Closes f main o answer → OnAnswer AreRegularBodies answer
closes_by f main answer (Some p) h c = refused_is answer _ c
closes_by f main answer None h (inl r) = refused_is answer _ r.answered
closes_by f main answer None h (inr d) =
    subst (λ x. OnAnswer AreRegularBodies x) (sym d.answered) (λ k b e. regular_by f main h.0 h.1 k b e)

ends_by : (main : Option Name) (answer : Result TypedFileTree Refusal) (r : Result FileState Refusal) → OnAnswer Both r
    → Ends main r answer → OnAnswer AreRegularBodies answer
ends_by main answer (Err r) h e = refused_is answer r e
ends_by main answer (Ok f) h e = closes_by f main answer (undefined_use f) h e

pub bodies_are_regular : BodiesAreRegular
bodies_are_regular main items file e = ends_by main (Ok file) (items_in first_file_state items) (file_regular items) e

-- ## What initialisers give

none_found : {A : Type 0} (b : Bool) (x : A) (rest : Option A) → cond b (Some x) rest ≡ None → (b ≡ false)
    × (rest ≡ None)
none_found true x rest e = absurd (none-some x (sym e))
none_found false x rest e = (refl, e)

none_mapped : {A B : Type 0} (f : A → B) (o : Option A) → option_map f o ≡ None → o ≡ None
none_mapped f None e = refl
none_mapped f (Some a) e = absurd (none-some (f a) (sym e))

abbrev objects_of : FileState → ℕ → Bool
objects_of f k = (static f.state k).defined

use_passes : (f : FileState) (x : Used) → is_undefined f x ≡ false → Passes (objects_of f) x
use_passes f (Uses.Function k) e = tt
use_passes f (Uses.Static k) e = not-false (static f.state k).defined e

all_passes : (f : FileState) (us : List Use) → find (λ u. is_undefined f u.used) us ≡ None → UsesPass (objects_of f) us
all_passes f [] e = tt
all_passes f (u ∷ us) e =
    let h = none_found (is_undefined f u.used) u (find (λ u. is_undefined f u.used) us) e in
    (use_passes f u.used h.0, all_passes f us h.1)

number_is : (os : List Static) (k n : ℕ) → option_map (λ (x : Static). x.of.number) (slice_get os k) ≡ Some n
    → (let x : Static = get_or os k no_static in x.of.number) ≡ n
number_is [] k n e = absurd (none-some n (no_number k e))
  where
    no_number : (k : ℕ) → option_map (λ (x : Static). x.of.number) (slice_get [] k) ≡ Some n → None ≡ Some n
    no_number zero e = e
    no_number (suc k) e = e
number_is (x ∷ os) zero n e = same_Some x.of.number n e
number_is (x ∷ os) (suc k) n e = number_is os k n e

module _ (f : FileState) (main : Option Name) (h : IsLawfulFile f) (pass : UsesPass (objects_of f) f.state.uses) where
  table_grows : TablesGrow f.state.scope (tables_of (file_of f main))
  table_grows = record {
    more = [];
    types = sym (append-nil f.state.scope.types);
    count = omega arith;
    structures = λ k e. refl;
  }

  value_for : (c : Scalar) (v : StaticValue) → ValueIn f.state c v → IsValueFor (file_of f main) c v
  value_for (Scalars.Int t) (Values.Number z) i = i
  value_for (Scalars.Int t) Values.Null i = i
  value_for (Scalars.Int t) (Values.Address o k) i = i
  value_for (Scalars.Pointer c) (Values.Number z) i = i
  value_for (Scalars.Pointer c) Values.Null i = i
  value_for (Scalars.Pointer c) (Values.Address o k) i =
      let a = i.inside in
      let b = cells_grow f.state.scope (tables_of (file_of f main)) h.state.tables table_grows i.type in
      let n = number_is f.state.statics o i.type i.is in
      let q = ap (cells_of (tables_of (file_of f main))) n in
      (i.used (objects_of f) pass, omega (arith, a, b, q))

  cell_for : (n : ℕ) (g : StaticCell) → IsFilledIn f.state n g → IsFilled (file_of f main) n g
  cell_for n g i = record {
    type = i.type;
    cell = cell_stays f.state.scope (tables_of (file_of f main)) h.state.tables table_grows n g.cell i.type i.cell;
    value = value_for i.type g.value i.value;
  }

  filled_by : AreFilledIn f.state → AreFilled (file_of f main)
  filled_by a =
      All-weaker (IsFilledObject f.state) (λ (o : Static). All (IsFilled (file_of f main) o.of.number) o.given)
      (λ o x. All-weaker (IsFilledIn f.state o.of.number) (IsFilled (file_of f main) o.of.number)
      (λ g y. cell_for o.of.number g y) o.given x) f.state.statics a

refused_fills : (answer : Result TypedFileTree Refusal) (r : Refusal) → answer ≡ Err r → OnAnswer AreFilled answer
refused_fills answer r e = subst (λ x. OnAnswer AreFilled x) (sym e) tt

closes_filled : (f : FileState) (main : Option Name) (answer : Result TypedFileTree Refusal) (o : Option Place) → Both f
    → undefined_use f ≡ o → Closes f main o answer → OnAnswer AreFilled answer
closes_filled f main answer (Some p) h u c = refused_fills answer _ c
closes_filled f main answer None h u (inl r) = refused_fills answer _ r.answered
closes_filled f main answer None h u (inr d) =
    subst (λ x. OnAnswer AreFilled x) (sym d.answered)
    (filled_by f main h.0
    (all_passes f f.state.uses
    (none_mapped (λ (u : Use). u.place) (find (λ u. is_undefined f u.used) f.state.uses) u)) h.1.1)

ends_filled : (main : Option Name) (answer : Result TypedFileTree Refusal) (r : Result FileState Refusal)
    → OnAnswer Both r → Ends main r answer → OnAnswer AreFilled answer
ends_filled main answer (Err r) h e = refused_fills answer r e
ends_filled main answer (Ok f) h e = closes_filled f main answer (undefined_use f) h refl e

pub initial_values_fit : InitialValuesFit
initial_values_fit main items file e =
    ends_filled main (Ok file) (items_in first_file_state items) (file_regular items) e
