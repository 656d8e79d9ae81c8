-- Items keep files lawful.
use Rattle.std.proofs.Common.{◌≡◌, ℕ, ◌<◌, ◌≤◌, zero, suc, List, [], ◌∷◌, ◌++◌, length, get_or, refl, sym, subst, ap, ◌∙◌, arith}
use Rattle.std.specs.Prelude.{◌==◌, Bool, true, false, cond, All, map, take, drop, slice_set, Option, Some, None, Result, Ok, Err}
use Rattle.std.specs.List.{filter_map, cons_option}
use Rattle.std.proofs.lemmas.List.{length-append, length-set, length-map, append_assoc, map-append, take_at}
use Rattle.std.proofs.lemmas.List.Elements.{All-weaker, All-nil, All-cons, All-head, All-tail, All-push, All-append, All-set, All-get_or, All-take, All-drop}
use Rattle.tm_laid.specs.tm_terms.declared.places.Place.{Place}
use Rattle.tm_laid.specs.tm_terms.declared.refusals.Refusal.{Refusal}
use Rattle.tm_laid.specs.tm_trees.FileTrees.{PartTrees}
use Rattle.tm_laid.specs.tm_typed.declared.scopes.Binding.{Binding}
use Rattle.tm_laid.specs.tm_typed.declared.scopes.TagBinding.{TagBinding}
use Rattle.tm_laid.specs.tm_typed.declared.scopes.ObjectNumber.{ObjectNumber}
use Rattle.tm_laid.specs.tm_typed.declared.scopes.ObjectNumber.TheVariants as Objects
use Rattle.tm_laid.specs.tm_typed.declared.types.TypeEntry.{TypeEntry}
use Rattle.tm_laid.specs.tm_typed.declared.files.LocalEntry.{LocalEntry}
use Rattle.tm_laid.specs.tm_typed.declared.files.TypedTask.{TypedTask}
use Rattle.tm_laid.specs.tm_typed.declared.uses.Use.{Use}
use Rattle.tm_laid.specs.tm_typed.declared.uses.Used.{Used}
use Rattle.tm_laid.specs.tm_typed.declared.uses.Used.TheVariants as Uses
use Rattle.tm_laid.specs.tm_typed.Scopes.{Scope, Function, entry, is_same_type}
use Rattle.tm_laid.specs.tm_typed.States.{State}
use Rattle.tm_laid.specs.tm_typed.StatementRules.{in_body}
use Rattle.tm_laid.specs.tm_typed.StatementTyping.{parts_in}
use Rattle.tm_laid.specs.tm_typed.TypedStatements.{TypedTrees}
use Rattle.tm_laid.specs.tm_typed.Functions.{to_file, body_begins, Head, no_function, function, function_used}
use Rattle.tm_laid.specs.tm_typed.Functions.{called_function, called_since, TypedBodyTree, FoundBody, body_in}
use Rattle.tm_laid.specs.tm_typed.Files.{TypedFunctionTree, FileState, no_typed_function, typed_function}
use Rattle.tm_laid.specs.tm_typed.Files.{defined_function, with_body, with_state}
use Rattle.tm_laid.specs.tm_typed.WellTyped.{OnAnswer, Context, Extends}
use Rattle.typed_file_laws.specs.Tables.{IsType, IsTag}
use Rattle.typed_file_laws.specs.Lawful.{object_type, IsBound, IsUse, IsFunction, IsLawfulState}
use Rattle.typed_file_laws.specs.Bodies.{AreStatements}
use Rattle.typed_file_laws.specs.LawfulFiles.{type_of_function, type_of_typed, body_context, OnBody, HasBody, IsLawfulFile}
use Rattle.typing_laws.proofs.Steps.{then_on}
use Rattle.typed_file_laws.proofs.TableGrowth.{TablesGrow, type_stays, entry_stays}
use Rattle.typed_file_laws.proofs.StateSteps.{Keeps, AreBound, all_bound, AreLocals, locals_stay}
use Rattle.typed_file_laws.proofs.Growing.{all_at, statements_stay}
use Rattle.typed_file_laws.proofs.StatementSteps.{AllStand, all_stand}
use Rattle.typed_file_laws.proofs.FunctionSteps.{Builds, builds_on, builds_by, viewed, builds_view, builds_keep, viewed_lawful}

-- two facts of one answer
pub both : {A : Type 0} (P Q : A → Type 0) (r : Result A Refusal) → OnAnswer P r → OnAnswer Q r → OnAnswer (λ a. P a × Q a) r
both P Q (Err e) h k = tt
both P Q (Ok a) h k = (h, k)

-- ## Bodies

-- a body's statements in a state, where these are its objects
abbrev pub within : ℕ → State → List LocalEntry → Context
within m s locals = record { scope = s.scope; type_of = object_type s.statics locals; mutexes = m }

builds_extend : (m n : ℕ) (s t : State) (locals : List LocalEntry) → IsLawfulState m s → Builds s t → m ≤ n → Extends (within m s locals) (within n t locals)
builds_extend m n s t locals h b l = record {
  more = b.grown.more;
  types = b.grown.types;
  structures = b.grown.structures;
  functions = b.functions;
  results = λ n f e. (all_at (IsFunction s.scope) s.scope.functions n f h.functions e).result;
  objects = object;
  mutexes = l;
}
  where
    object : (o : ObjectNumber) (n : ℕ) → object_type s.statics locals o ≡ Some n → object_type t.statics locals o ≡ Some n
    object (Objects.Static k) n e = b.objects k n e
    object (Objects.Local k) n e = e

-- functions that are called by uses are there
call_there : (s : State) (x : Used) (rest : List ℕ) → IsUse s x → All (λ (g : ℕ). g < length s.scope.functions) rest → All (λ (g : ℕ). g < length s.scope.functions) (cons_option (function_used x) rest)
call_there s (Uses.Function f) rest h k = All-cons (λ (g : ℕ). g < length s.scope.functions) f rest h k
call_there s (Uses.Static i) rest h k = k

calls_there : (s : State) (us : List Use) → All (λ (u : Use). IsUse s u.used) us → All (λ (g : ℕ). g < length s.scope.functions) (filter_map called_function us)
calls_there s [] h = All-nil (λ (g : ℕ). g < length s.scope.functions)
calls_there s (u ∷ us) h = call_there s u.used (filter_map called_function us) (All-head (λ (u : Use). IsUse s u.used) u us h) (calls_there s us (All-tail (λ (u : Use). IsUse s u.used) u us h))

-- the state behind a body, in which its names and objects are gone, and what holds of the body there
pub record Ended (m : ℕ) (s : State) (result : ℕ) (b : FoundBody) : Type 0 where
  pub lawful : IsLawfulState m (to_file b.state)
  pub builds : Builds s (to_file b.state)
  pub empty : (to_file b.state).locals ≡ []
  pub same : (to_file b.state).scope.functions ≡ s.scope.functions
  pub locals : AreLocals (to_file b.state).scope b.body.locals
  pub type : IsType (to_file b.state).scope result
  pub statements : AreStatements (within m (to_file b.state) b.body.locals) result b.body.statements
  pub calls : All (λ (g : ℕ). g < length (to_file b.state).scope.functions) b.calls

pub body_ends : (m : ℕ) (s v : State) (p : List Binding) (result : ℕ) (parts : PartTrees) → IsLawfulState m s → s.locals ≡ [] → IsLawfulState m v → Builds s v
    → v.scope.functions ≡ s.scope.functions → v.scope.names ≡ s.scope.names ++ p → v.scope.outer_names ≡ length s.scope.names → IsType v.scope result → OnAnswer (Ended m s result) (body_in v result parts)
body_ends m s v p result parts h none k b same names outer t =
    then_on (AllStand m v result) (Ended m s result) (parts_in v (in_body result) parts) _ (all_stand m v (in_body result) parts k t) (λ a c. ended a c)
  where
    ended : (a : TypedTrees × State) → AllStand m v result a → Ended m s result (record {
      body = record { locals = a.1.locals; parameters = length v.locals; statements = a.0 };
      calls = called_since (length v.uses) a.1.uses;
      state = body_begins a.1;
    })
    ended a c =
        let u : State = a.1 in
        let w : State = viewed u (take u.scope.outer_names u.scope.names) (take u.scope.outer_tags u.scope.tags) 0 0 [] 0 in
        let view : Builds u w = builds_view u (take u.scope.outer_names u.scope.names) (take u.scope.outer_tags u.scope.tags) 0 0 [] 0 in
        let from : Builds s w = builds_on s v w b (builds_on v u w (builds_by m v u c.0) view) in
        let keeps : Keeps s w = builds_keep s w none from in
        let back : take u.scope.outer_names u.scope.names ≡ s.scope.names =
        ap (λ (n : ℕ). take n u.scope.names) (c.0.outer ∙ outer)
        ∙ ap (λ (bs : List Binding). take (length s.scope.names) bs) (c.0.names ∙ ap (λ (bs : List Binding). bs ++ c.0.added) names ∙ append_assoc s.scope.names p c.0.added)
        ∙ take_at s.scope.names (p ++ c.0.added) (length s.scope.names) refl in
        let bound : AreBound m w (take u.scope.outer_names u.scope.names) = (let P : List Binding → Type 0 = λ bs. AreBound m w bs in subst P (sym back) (all_bound m s w keeps s.scope.names h.names)) in
        record {
          lawful = viewed_lawful m u (take u.scope.outer_names u.scope.names) (take u.scope.outer_tags u.scope.tags) 0 0 [] 0 c.0.lawful bound
              (All-take (λ (b : TagBinding). IsTag u.scope b.tagged) u.scope.outer_tags u.scope.tags c.0.lawful.tables.tags) (All-nil (λ (o : LocalEntry). IsType u.scope o.of.number));
          builds = from;
          empty = refl;
          same = c.0.functions ∙ same;
          locals = locals_stay u.scope w.scope view.grown u.locals c.0.lawful.locals;
          type = type_stays u.scope w.scope view.grown result (type_stays v.scope u.scope c.0.keeps.grown result t);
          statements = statements_stay (within m u u.locals) (within m w u.locals) (builds_extend m m u w u.locals c.0.lawful view (omega arith)) result (type_stays v.scope u.scope c.0.keeps.grown result t) a.0 c.1;
          calls = calls_there u (drop (length v.uses) u.uses) (All-drop (λ (x : Use). IsUse u x.used) (length v.uses) u.uses c.0.lawful.uses);
        }

-- ## What stays from item to item

class_stays : (v w : Scope) → TablesGrow v w → (a b : ℕ) → IsType v a → IsType v b → is_same_type v a b ≡ true → is_same_type w a b ≡ true
class_stays v w g a b i j h =
    let P : TypeEntry → Type 0 = λ e. (e.class == (entry w b).class) ≡ true in
    let Q : TypeEntry → Type 0 = λ e. ((entry v a).class == e.class) ≡ true in
    subst P (sym (entry_stays v w g a i)) (subst Q (sym (entry_stays v w g b j)) h)

abbrev pub mutexes_of : FileState → ℕ
mutexes_of f = length f.mutexes

body_stays : (f g : FileState) → IsLawfulState (mutexes_of f) f.state → Builds f.state g.state → mutexes_of f ≤ mutexes_of g
    → (result : ℕ) → IsType f.state.scope result → (b : Option TypedBodyTree) → OnBody f result b → OnBody g result b
body_stays f g h b m result t None k = tt
body_stays f g h b m result t (Some x) k = record {
  locals = locals_stay f.state.scope g.state.scope b.grown x.locals k.locals;
  returned = k.returned;
  type = type_stays f.state.scope g.state.scope b.grown k.returned k.type;
  same = class_stays f.state.scope g.state.scope b.grown k.returned result k.type t k.same;
  statements = statements_stay (body_context f x.locals) (body_context g x.locals) (builds_extend (mutexes_of f) (mutexes_of g) f.state g.state x.locals h b m) k.returned k.type x.statements k.statements;
}

function_stays : (f g : FileState) → IsLawfulState (mutexes_of f) f.state → Builds f.state g.state → mutexes_of f ≤ mutexes_of g → (x : TypedFunctionTree) → HasBody f x → HasBody g x
function_stays f g h b m x k = (type_stays f.state.scope g.state.scope b.grown x.result k.0, body_stays f g h b m x.result k.0 x.body k.1)

pub bodies_stay : (f g : FileState) → IsLawfulState (mutexes_of f) f.state → Builds f.state g.state → mutexes_of f ≤ mutexes_of g → (xs : List TypedFunctionTree) → All (HasBody f) xs → All (HasBody g) xs
bodies_stay f g h b m xs k = All-weaker (HasBody f) (HasBody g) (function_stays f g h b m) xs k

-- a state in which more is built takes the place of the state
pub state_lawful : (f : FileState) (t : State) → IsLawfulFile f → IsLawfulState (mutexes_of f) t → Builds f.state t → t.locals ≡ [] → t.scope.functions ≡ f.state.scope.functions → IsLawfulFile (with_state f t)
state_lawful f t h l b none same = record {
  state = l;
  locals = none;
  alike = h.alike ∙ ap (map type_of_function) (sym same);
  graph = h.graph;
  callees = h.callees;
  bodies = bodies_stay f (with_state f t) h.state b (omega arith) f.functions h.bodies;
  tasks = h.tasks;
}

-- ## Lists of functions

get_map : {A B : Type 0} (g : A → B) (xs : List A) (d : A) (n : ℕ) → get_or (map g xs) n (g d) ≡ g (get_or xs n d)
get_map g [] d zero = refl
get_map g [] d (suc n) = refl
get_map g (x ∷ xs) d zero = refl
get_map g (x ∷ xs) d (suc n) = get_map g xs d n

-- functions of a file have the types with which they are visible
pub type_alike : (xs : List TypedFunctionTree) (ys : List Function) (n : ℕ) → map type_of_typed xs ≡ map type_of_function ys → type_of_typed (get_or xs n no_typed_function) ≡ type_of_function (get_or ys n no_function)
type_alike xs ys n e =
    sym (get_map type_of_typed xs no_typed_function n) ∙ ap (λ (ts : List (ℕ × List ℕ)). get_or ts n (0, [])) e ∙ get_map type_of_function ys no_function n

pub count_alike : (f : FileState) → map type_of_typed f.functions ≡ map type_of_function f.state.scope.functions → length f.functions ≡ length f.state.scope.functions
count_alike f e = sym (length-map f.functions type_of_typed) ∙ ap length e ∙ length-map f.state.scope.functions type_of_function

set_alike : {A B : Type 0} (g : A → B) (xs : List A) (k : ℕ) (d y : A) → g y ≡ g (get_or xs k d) → map g (slice_set xs k y) ≡ map g xs
set_alike g [] k d y e = refl
set_alike g (x ∷ xs) zero d y e = ap (λ z. z ∷ map g xs) e
set_alike g (x ∷ xs) (suc k) d y e = ap (λ zs. g x ∷ zs) (set_alike g xs k d y e)

pub all_calls : (n m : ℕ) → n ≤ m → (cs : List (List ℕ)) → All (All (λ (g : ℕ). g < n)) cs → All (All (λ (g : ℕ). g < m)) cs
all_calls n m l cs h = All-weaker (All (λ (g : ℕ). g < n)) (All (λ (g : ℕ). g < m)) (λ c k. All-weaker (λ (g : ℕ). g < n) (λ (g : ℕ). g < m) (λ g i. omega (arith, i, l)) c k) cs h

pub all_tasks : (n m : ℕ) → n ≤ m → (ts : List TypedTask) → All (λ (t : TypedTask). t.function < n) ts → All (λ (t : TypedTask). t.function < m) ts
all_tasks n m l ts h = All-weaker (λ (t : TypedTask). t.function < n) (λ (t : TypedTask). t.function < m) (λ t i. omega (arith, i, l)) ts h

-- ## Functions

pub further_types : (v : Scope) (k : ℕ) (b : Bool) → map type_of_function (let w : Scope = cond b (record v { functions = slice_set v.functions k (record (function v k) { defined = true }) }) v in w.functions) ≡ map type_of_function v.functions
further_types v k true = set_alike type_of_function v.functions k no_function (record (function v k) { defined = true }) refl
further_types v k false = refl

-- a further declaration
pub further_lawful : (f : FileState) (t : State) → IsLawfulFile f → IsLawfulState (mutexes_of f) t → Builds f.state t → t.locals ≡ [] → map type_of_function t.scope.functions ≡ map type_of_function f.state.scope.functions → IsLawfulFile (with_state f t)
further_lawful f t h l b none same = record {
  state = l;
  locals = none;
  alike = h.alike ∙ sym same;
  graph = h.graph;
  callees = h.callees;
  bodies = bodies_stay f (with_state f t) h.state b (omega arith) f.functions h.bodies;
  tasks = h.tasks;
}

-- a new function, which has no body so far
pub new_lawful : (f : FileState) (t : State) (x : TypedFunctionTree) (y : Function) → IsLawfulFile f → IsLawfulState (mutexes_of f) t → Builds f.state t → t.locals ≡ []
    → t.scope.functions ≡ f.state.scope.functions ++ y ∷ [] → type_of_typed x ≡ type_of_function y → IsType t.scope x.result → x.body ≡ None
    → IsLawfulFile (record f { state = t; functions = f.functions ++ x ∷ []; calls = f.calls ++ [] ∷ [] })
new_lawful f t x y h l b none same type i bare =
    let g : FileState = record f { state = t; functions = f.functions ++ x ∷ []; calls = f.calls ++ [] ∷ [] } in
    let more = length-append f.functions (x ∷ []) in record {
      state = l;
      locals = none;
      alike =
          map-append type_of_typed f.functions (x ∷ []) ∙ ap (λ (ts : List (ℕ × List ℕ)). ts ++ type_of_typed x ∷ []) h.alike
          ∙ ap (λ (u : ℕ × List ℕ). map type_of_function f.state.scope.functions ++ u ∷ []) type
          ∙ sym (map-append type_of_function f.state.scope.functions (y ∷ [])) ∙ ap (map type_of_function) (sym same);
      graph = let a = length-append f.calls (let none : List ℕ = [] in none ∷ []) in let e = h.graph in omega (arith, more, a, e);
      callees = All-push (All (λ (j : ℕ). j < length (f.functions ++ x ∷ []))) f.calls [] (all_calls (length f.functions) (length (f.functions ++ x ∷ [])) (omega (arith, more)) f.calls h.callees) (All-nil (λ (j : ℕ). j < length (f.functions ++ x ∷ [])));
      bodies = All-push (HasBody g) f.functions x (bodies_stay f g h.state b (omega arith) f.functions h.bodies)
          (i, (let P : Option TypedBodyTree → Type 0 = λ o. OnBody g x.result o in subst P (sym bare) tt));
      tasks = all_tasks (length f.functions) (length (f.functions ++ x ∷ [])) (omega (arith, more)) f.tasks h.tasks;
    }

-- a body is that of the function k, which returns what the body does but for `const`
defined_lawful : (f : FileState) (k : ℕ) (p : Place) (result : ℕ) (b : FoundBody) → IsLawfulFile f → Ended (mutexes_of f) f.state result b → k < length f.functions
    → is_same_type f.state.scope result (let x : TypedFunctionTree = typed_function f k in x.result) ≡ true → IsType f.state.scope result → IsLawfulFile (defined_function f k p b (to_file b.state))
defined_lawful f k p result b h e l same t =
    let w : State = to_file b.state in
    let old : TypedFunctionTree = typed_function f k in
    let x : TypedFunctionTree = record old { place = p; body = Some b.body } in
    let g : FileState = defined_function f k p b w in
    let long = length-set f.functions k x in
    let count : length f.functions ≡ length w.scope.functions = count_alike f h.alike ∙ sym (ap length e.same) in
    let had : HasBody f old = All-get_or (HasBody f) f.functions k no_typed_function l h.bodies in record {
      state = e.lawful;
      locals = e.empty;
      alike = set_alike type_of_typed f.functions k no_typed_function x refl ∙ h.alike ∙ ap (map type_of_function) (sym e.same);
      graph = let a = length-set f.calls k b.calls in let i = h.graph in omega (arith, long, a, i);
      callees = All-set (All (λ (j : ℕ). j < length (slice_set f.functions k x))) f.calls k b.calls
          (All-weaker (λ (j : ℕ). j < length w.scope.functions) (λ (j : ℕ). j < length (slice_set f.functions k x)) (λ j i. omega (arith, i, count, long)) b.calls e.calls)
          (all_calls (length f.functions) (length (slice_set f.functions k x)) (omega (arith, long)) f.calls h.callees);
      bodies = All-set (HasBody g) f.functions k x (
        type_stays f.state.scope w.scope e.builds.grown old.result had.0,
        record { locals = e.locals; returned = result; type = e.type; same = class_stays f.state.scope w.scope e.builds.grown result old.result t had.0 same; statements = e.statements },
      )
          (bodies_stay f g h.state e.builds (omega arith) f.functions h.bodies);
      tasks = all_tasks (length f.functions) (length (slice_set f.functions k x)) (omega (arith, long)) f.tasks h.tasks;
    }

-- the state of a file with these objects of a body
abbrev opened_with : FileState → List LocalEntry → ℕ → FileState
opened_with f ls site = with_state f (record f.state { locals = ls; site = site })

pub body_lawful : (f : FileState) (ls : List LocalEntry) (site : ℕ) (p : List Binding) (k : ℕ) (h : Head) (parts : Option PartTrees) → IsLawfulFile f → AreLocals f.state.scope ls
    → AreBound (mutexes_of f) (record f.state { locals = ls; site = site }) p → k < length f.functions
    → is_same_type f.state.scope h.result (let x : TypedFunctionTree = typed_function f k in x.result) ≡ true → IsType f.state.scope h.result
    → OnAnswer IsLawfulFile (with_body (opened_with f ls site) p k h parts)
body_lawful f ls site p k h None w li bs l same t =
    let s : State = f.state in
    let tags : List TagBinding = take s.scope.outer_tags s.scope.tags in
    let u : State = viewed s s.scope.names tags s.scope.outer_names 0 [] 0 in
    let b : Builds s u = builds_view s s.scope.names tags s.scope.outer_names 0 [] 0 in
    state_lawful f u w
    (viewed_lawful (mutexes_of f) s s.scope.names tags s.scope.outer_names 0 [] 0 w.state (all_bound (mutexes_of f) s u (builds_keep s u w.locals b) s.scope.names w.state.names)
    (All-take (λ (b : TagBinding). IsTag s.scope b.tagged) s.scope.outer_tags s.scope.tags w.state.tables.tags) (All-nil (λ (o : LocalEntry). IsType s.scope o.of.number)))
    b refl refl
body_lawful f ls site p k h (Some parts) w li bs l same t =
    let m : ℕ = mutexes_of f in
    let s : State = f.state in
    let names : List Binding = s.scope.names ++ p in
    let v : State = viewed s names s.scope.tags (length s.scope.names) s.scope.outer_tags ls site in
    let b : Builds s v = builds_view s names s.scope.tags (length s.scope.names) s.scope.outer_tags ls site in
    let bound : AreBound m v names = All-append (λ (b : Binding). IsBound m v b.named) s.scope.names p (all_bound m s v (builds_keep s v w.locals b) s.scope.names w.state.names)
    (all_bound m (record s { locals = ls; site = site }) v (record { grown = b.grown; functions = omega arith; objects = λ o n e. e; statics = omega arith }) p bs) in
    let good : IsLawfulState m v = viewed_lawful m s names s.scope.tags (length s.scope.names) s.scope.outer_tags ls site w.state bound w.state.tables.tags li in
    then_on (Ended m s h.result) IsLawfulFile (body_in v h.result parts) _ (body_ends m s v p h.result parts w.state w.locals good b refl refl refl t)
    (λ x e. defined_lawful f k h.place h.result x w e l same t)
