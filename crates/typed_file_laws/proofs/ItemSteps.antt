-- Every file whose items are typed is lawful.
use Rattle.std.proofs.Common.{◌≡◌, ℕ, ◌<◌, ◌≤◌, List, [], ◌∷◌, ◌++◌, length, get_or, refl, sym, subst, ap, ◌∙◌, arith}
use Rattle.std.specs.Prelude.{true, false, ◌||◌, is_some, All, map, take, Option, Some, None, Ok}
use Rattle.std.proofs.lemmas.Bool.{false≢true, eq-eqb}
use Rattle.std.proofs.lemmas.List.{length-append, append-nil, map-append, take_at}
use Rattle.std.proofs.lemmas.List.Elements.{All-weaker, All-nil, All-cons, All-push, All-get_or, All-drop, All-map}
use Rattle.tm_laid.specs.tm_cint.declared.int_types.IntType.{IntType}
use Rattle.tm_laid.specs.tm_cint.declared.int_types.IntType.TheVariants as Ints
use Rattle.tm_laid.specs.tm_terms.declared.places.Place.{Place}
use Rattle.tm_laid.specs.tm_terms.declared.tokens.Name.{Name}
use Rattle.tm_laid.specs.tm_terms.declared.refusals.Kind.TheVariants as Kinds
use Rattle.tm_laid.specs.tm_terms.ExprTrees.{Tree}
use Rattle.tm_laid.specs.tm_trees.FileTrees.{PartTrees, FunctionTree, ItemTree, a_declaration, a_function}
use Rattle.tm_laid.specs.tm_trees.FileTrees.{an_empty_item, a_mutex, a_task}
use Rattle.tm_laid.specs.tm_trees.DeclarationTrees.{DeclarationTree}
use Rattle.tm_laid.specs.tm_typed.declared.uses.Use.{Use}
use Rattle.tm_laid.specs.tm_typed.declared.types.CType.{CType}
use Rattle.tm_laid.specs.tm_typed.declared.types.CType.TheVariants as Types
use Rattle.tm_laid.specs.tm_typed.declared.types.TypeEntry.{TypeEntry}
use Rattle.tm_laid.specs.tm_typed.declared.scopes.Binding.{Binding}
use Rattle.tm_laid.specs.tm_typed.declared.scopes.TagBinding.{TagBinding}
use Rattle.tm_laid.specs.tm_typed.declared.scopes.Named.{Named}
use Rattle.tm_laid.specs.tm_typed.declared.scopes.Named.TheVariants as Names
use Rattle.tm_laid.specs.tm_typed.declared.scopes.ObjectNumber.{ObjectNumber}
use Rattle.tm_laid.specs.tm_typed.declared.scopes.ObjectNumber.TheVariants as Objects
use Rattle.tm_laid.specs.tm_typed.declared.specifiers.Said.{Said}
use Rattle.tm_laid.specs.tm_typed.declared.specifiers.Shape.{Shape}
use Rattle.tm_laid.specs.tm_typed.declared.files.LocalEntry.{LocalEntry}
use Rattle.tm_laid.specs.tm_typed.declared.files.TypedTask.{TypedTask}
use Rattle.tm_laid.specs.tm_typed.declared.files.MutexEntry.{MutexEntry}
use Rattle.tm_laid.specs.tm_typed.Types.{no_type, void_number, int_number, int_entry, first_types}
use Rattle.tm_laid.specs.tm_typed.Scopes.{Scope, Function, entry, ctype_of, is_same_type, named_here}
use Rattle.tm_laid.specs.tm_typed.Refusals.{then_with}
use Rattle.tm_laid.specs.tm_typed.States.{Static, State, in_scope, with_name}
use Rattle.tm_laid.specs.tm_typed.Evaluation.{measured, folded_value}
use Rattle.tm_laid.specs.tm_typed.Specifiers.{base}
use Rattle.tm_laid.specs.tm_typed.Declarators.{declared_pointers}
use Rattle.tm_laid.specs.tm_typed.Structures.{is_declared_here, specified}
use Rattle.tm_laid.specs.tm_typed.Declarations.{linked, file_declaration}
use Rattle.tm_laid.specs.tm_typed.StatementTyping.{enter}
use Rattle.tm_laid.specs.tm_typed.TypedTrees.{OperandTree}
use Rattle.tm_laid.specs.tm_typed.Functions.{parameters_in, left_names, to_file, names_here, body_begins, Head}
use Rattle.tm_laid.specs.tm_typed.Functions.{with_function, number_of, clashes_with, function_rules, FoundBody, body_in}
use Rattle.tm_laid.specs.tm_typed.Files.{TypedFunctionTree, FileState, first_scope, first_state, first_file_state}
use Rattle.tm_laid.specs.tm_typed.Files.{typed_function, declared_function, head_of, with_body, with_state, function_in}
use Rattle.tm_laid.specs.tm_typed.Files.{priority_of, task_scope, with_task, named_task_in, task_in, mutex_in, item_in}
use Rattle.tm_laid.specs.tm_typed.Files.{items_in}
use Rattle.tm_laid.specs.tm_typed.WellTyped.{OnAnswer}
use Rattle.typed_file_laws.specs.Tables.{IsType, IsTag, form, IsRow, IsStructure, AreLawfulTables}
use Rattle.typed_file_laws.specs.Lawful.{object_type, IsBound, IsLinked, IsUse, IsFunction, IsNumber, IsLawfulState}
use Rattle.typed_file_laws.specs.LawfulFiles.{type_of_function, type_of_typed, HasBody, IsLawfulFile}
use Rattle.typing_laws.proofs.Steps.{then_on}
use Rattle.typed_file_laws.proofs.RuleSteps.{on_row, OnSome, on_row_unless, some_any}
use Rattle.typed_file_laws.proofs.TableGrowth.{TablesGrow, type_stays}
use Rattle.typed_file_laws.proofs.TableRows.{bytes_small}
use Rattle.typed_file_laws.proofs.TypeShapes.{int_basic, base_type, void_is_type}
use Rattle.typed_file_laws.proofs.StateSteps.{rescoped_lawful, rescoped_grows, Keeps, AreBound, all_bound, all_linked, all_uses, functions_stay, statics_stay, AreLocals, locals_stay, Continues, name_continues, measured_continues, Evaluates}
use Rattle.typed_file_laws.proofs.SpecifierSteps.{pointers_continue, Says, specified_says}
use Rattle.typed_file_laws.proofs.DeclarationSteps.{file_declaration_continues}
use Rattle.typed_file_laws.proofs.StatementSteps.{enter_lawful}
use Rattle.typed_file_laws.proofs.SameLocals.{SameState, specified_same, file_declaration_same, measured_locals}
use Rattle.typed_file_laws.proofs.FunctionSteps.{got_function, same_function, parameters_continue, Builds, builds_on, builds_by, viewed, builds_view, builds_keep, viewed_lawful, Heads, new_head, further_head, rules_met, named_here_stands, agrees_there}
use Rattle.typed_file_laws.proofs.FileSteps.{both, Ended, body_ends, mutexes_of, bodies_stay, state_lawful, type_alike, count_alike, all_calls, all_tasks, further_types, further_lawful, new_lawful, body_lawful}

-- ## Heads with their bodies

-- names of parameters go on naming them
with_parameters : (s t : State) (ls : List LocalEntry) (site : ℕ) → Builds s t → Keeps (record s { locals = ls; site = site }) (record t { locals = ls; site = site })
with_parameters s t ls site b = record { grown = b.grown; functions = b.count; objects = object; statics = b.statics }
  where
    object : (o : ObjectNumber) (n : ℕ) → object_type s.statics ls o ≡ Some n → object_type t.statics ls o ≡ Some n
    object (Objects.Static k) n e = b.objects k n e
    object (Objects.Local k) n e = e

-- what holds before the function of a head is declared
pub record BeforeHead (f : FileState) (s : State) (ls : List LocalEntry) (site : ℕ) (p : List Binding) (h : Head) : Type 0 where
  pub file : IsLawfulFile f
  pub state : IsLawfulState (mutexes_of f) s
  pub builds : Builds f.state s
  pub empty : s.locals ≡ []
  pub same : s.scope.functions ≡ f.state.scope.functions
  pub locals : AreLocals s.scope ls
  pub names : AreBound (mutexes_of f) (record s { locals = ls; site = site }) p
  pub result : IsType s.scope h.result
  pub parameters : All (IsType s.scope) h.parameters

-- a head whose function is declared, as all that its body needs
body_follows : (f : FileState) (s : State) (ls : List LocalEntry) (site : ℕ) (p : List Binding) (h : Head) (k : ℕ) (parts : Option PartTrees) (g : FileState)
    → BeforeHead f s ls site p h → Heads (mutexes_of f) s g.state h k → mutexes_of g ≡ mutexes_of f → IsLawfulFile g → OnAnswer IsLawfulFile (with_body (with_state g (record g.state { locals = ls; site = site })) p k h parts)
body_follows f s ls site p h k parts g b d m l =
    let kept : Keeps (record s { locals = ls; site = site }) (record g.state { locals = ls; site = site }) = with_parameters s g.state ls site d.builds in
    let bound : AreBound (mutexes_of g) (record g.state { locals = ls; site = site }) p = (
    let P : ℕ → Type 0 = λ n. AreBound n (record g.state { locals = ls; site = site }) p in
    subst P (sym m) (all_bound (mutexes_of f) (record s { locals = ls; site = site }) (record g.state { locals = ls; site = site }) kept p b.names)) in
    let same : is_same_type g.state.scope h.result (let x : TypedFunctionTree = typed_function g k in x.result) ≡ true = (
    let P : ℕ → Type 0 = λ n. is_same_type g.state.scope h.result n ≡ true in
    subst P (sym (ap (λ (t : ℕ × List ℕ). t.0) (type_alike g.functions g.state.scope.functions k l.alike))) d.same) in
    body_lawful g ls site p k h parts l (locals_stay s.scope g.state.scope d.builds.grown ls b.locals) bound
    (let e = count_alike g l.alike in let t = d.there in omega (arith, e, t)) same (type_stays s.scope g.state.scope d.builds.grown h.result b.result)

headed_lawful : (f : FileState) (s : State) (ls : List LocalEntry) (site : ℕ) (p : List Binding) (h : Head) (already : Option Named) (parts : Option PartTrees) → BeforeHead f s ls site p h
    → OnSome (IsBound (mutexes_of f) s) already → clashes_with s h already ≡ false
    → let t : State = record s { locals = ls; site = site } in
    OnAnswer IsLawfulFile (with_body (declared_function (with_state f t) (in_scope t (with_function s.scope h already)) h already) p (number_of s.scope already) h parts)
headed_lawful f s ls site p h (Some (Names.Function k)) parts b o e =
    let new : Scope = with_function s.scope h (Some (Names.Function k)) in
    let d : Heads (mutexes_of f) s (in_scope s new) h k = further_head (mutexes_of f) s h k h.is_definition refl b.state o (agrees_there s.scope h k o e) in
    body_follows f s ls site p h k parts (with_state f (in_scope s new)) b d refl
    (further_lawful f (in_scope s new) b.file d.lawful (builds_on f.state s (in_scope s new) b.builds d.builds) b.empty
    (further_types s.scope k h.is_definition ∙ ap (map type_of_function) b.same))
headed_lawful f s ls site p h None parts b o e =
    let new : Scope = with_function s.scope h None in
    let d : Heads (mutexes_of f) s (in_scope s new) h (length s.scope.functions) = new_head (mutexes_of f) s h b.state b.result b.parameters in
    let x : TypedFunctionTree = record { name = h.name; place = h.place; result = h.result; parameters = h.parameters; body = None } in
    let y : Function = record { result = h.result; parameters = h.parameters; defined = h.is_definition } in
    body_follows f s ls site p h (length s.scope.functions) parts (record f { state = in_scope s new; functions = f.functions ++ x ∷ []; calls = f.calls ++ [] ∷ [] }) b d refl
    (new_lawful f (in_scope s new) x y b.file d.lawful (builds_on f.state s (in_scope s new) b.builds d.builds) b.empty
    (ap (λ (fs : List Function). fs ++ y ∷ []) b.same) refl (type_stays s.scope (in_scope s new).scope d.builds.grown h.result b.result) refl)
headed_lawful f s ls site p h (Some (Names.Object x q)) parts b o e = absurd (false≢true (sym e))
headed_lawful f s ls site p h (Some (Names.Alias q)) parts b o e = absurd (false≢true (sym e))
headed_lawful f s ls site p h (Some Names.Task) parts b o e = absurd (false≢true (sym e))
headed_lawful f s ls site p h (Some (Names.Mutex i)) parts b o e = absurd (false≢true (sym e))
headed_lawful f s ls site p h (Some (Names.Enumerator z)) parts b o e = absurd (false≢true (sym e))

-- what stands behind the parameters of a head
before_head : (f : FileState) (g : FunctionTree) (r : State) (result : Shape) (s : State) → IsLawfulFile f → IsLawfulState (mutexes_of f) r → Builds f.state r → r.locals ≡ []
    → r.scope.functions ≡ f.state.scope.functions → IsType r.scope result.of.number → Continues (mutexes_of f) (enter (body_begins r)) s
    → BeforeHead f (viewed s (take s.scope.outer_names s.scope.names) s.scope.tags 0 s.scope.outer_tags [] 0) s.locals s.site (names_here s.scope) (head_of g result s.locals)
before_head f g r result s w h b none same i c =
    let m : ℕ = mutexes_of f in
    let r0 : State = viewed r r.scope.names r.scope.tags r.scope.outer_names r.scope.outer_tags [] 0 in
    let e : State = enter r0 in
    let names : List Binding = take s.scope.outer_names s.scope.names in
    let t : State = viewed s names s.scope.tags 0 s.scope.outer_tags [] 0 in
    let first : Builds r r0 = builds_view r r.scope.names r.scope.tags r.scope.outer_names r.scope.outer_tags [] 0 in
    let second : Builds r0 e = builds_view r0 r0.scope.names r0.scope.tags (length r0.scope.names) (length r0.scope.tags) [] 0 in
    let last : Builds s t = builds_view s names s.scope.tags 0 s.scope.outer_tags [] 0 in
    let from : Builds r0 t = builds_on r0 e t second (builds_on e s t (builds_by m e s c) last) in
    let r0_names : AreBound m r0 r.scope.names = all_bound m r r0 (builds_keep r r0 none first) r.scope.names h.names in
    let back : names ≡ r.scope.names =
    ap (λ (n : ℕ). take n s.scope.names) c.outer ∙ ap (λ (bs : List Binding). take (length r.scope.names) bs) c.names ∙ take_at r.scope.names c.added (length r.scope.names) refl in
    let bound : AreBound m t names = (let P : List Binding → Type 0 = λ bs. AreBound m t bs in subst P (sym back) (all_bound m r0 t (builds_keep r0 t refl from) r.scope.names r0_names)) in
    let ls : AreLocals t.scope s.locals = locals_stay s.scope t.scope last.grown s.locals c.lawful.locals in
    record {
      file = w;
      state = viewed_lawful m s names s.scope.tags 0 s.scope.outer_tags [] 0 c.lawful bound c.lawful.tables.tags (All-nil (λ (o : LocalEntry). IsType s.scope o.of.number));
      builds = builds_on f.state r t b (builds_on r r0 t first from);
      empty = refl;
      same = c.functions ∙ same;
      locals = ls;
      names = all_bound m s (record t { locals = s.locals; site = s.site }) (record { grown = last.grown; functions = omega arith; objects = λ o n x. x; statics = omega arith }) (names_here s.scope)
          (All-drop (λ (b : Binding). IsBound m s b.named) s.scope.outer_names s.scope.names c.lawful.names);
      result = type_stays r.scope t.scope (builds_on r r0 t first from).grown result.of.number i;
      parameters = All-map (IsType t.scope) (λ (o : LocalEntry). o.of.number) s.locals ls;
    }

parameters_begin : (f : FileState) (r : State) → IsLawfulState (mutexes_of f) r → r.locals ≡ [] → IsLawfulState (mutexes_of f) (enter (body_begins r))
parameters_begin f r h none =
    let m : ℕ = mutexes_of f in
    let r0 : State = viewed r r.scope.names r.scope.tags r.scope.outer_names r.scope.outer_tags [] 0 in
    let first : Builds r r0 = builds_view r r.scope.names r.scope.tags r.scope.outer_names r.scope.outer_tags [] 0 in
    enter_lawful m r0 (viewed_lawful m r r.scope.names r.scope.tags r.scope.outer_names r.scope.outer_tags [] 0 h
    (all_bound m r r0 (builds_keep r r0 none first) r.scope.names h.names) h.tables.tags (All-nil (λ (o : LocalEntry). IsType r.scope o.of.number)))

function_lawful : (f : FileState) (g : FunctionTree) → IsLawfulFile f → OnAnswer IsLawfulFile (function_in f g)
function_lawful f g w =
    let m : ℕ = mutexes_of f in
    then_on (λ (a : Said × State). Says m f.state a × (a.1.locals ≡ f.state.locals)) IsLawfulFile (specified f.state g.specifiers) _
    (both (Says m f.state) (λ (a : Said × State). a.1.locals ≡ f.state.locals) (specified f.state g.specifiers) (specified_says m f.state g.specifiers w.state) (specified_same f.state g.specifiers)) (λ a x.
    let result : Shape × State = declared_pointers a.1 (base a.0) g.pointers in
    let r : State = result.1 in
    let k = pointers_continue m a.1 (base a.0) g.pointers x.0.0.lawful (base_type a.1.scope x.0.0.lawful.tables a.0 x.0.1) in
    let none : r.locals ≡ [] = x.1 ∙ w.locals in
    then_on (Continues m (enter (body_begins r))) IsLawfulFile (parameters_in (enter (body_begins r)) g.parameters) _
    (parameters_continue m (enter (body_begins r)) g.parameters (parameters_begin f r k.0.lawful none)) (λ s c.
    let h : Head = head_of g result.0 s.locals in
    let t : State = in_scope s (left_names s.scope) in
    let b : BeforeHead f (viewed s (take s.scope.outer_names s.scope.names) s.scope.tags 0 s.scope.outer_tags [] 0) s.locals s.site (names_here s.scope) h =
    before_head f g r result.0 s w k.0.lawful (builds_on f.state a.1 r (builds_by m f.state a.1 x.0.0) (builds_by m a.1 r k.0)) none (k.0.functions ∙ x.0.0.functions) k.1 c in
    then_on (λ (u : Unit {0}). clashes_with t h (named_here t.scope h.name) ≡ false) IsLawfulFile (function_rules t h a.0.storage result.0) _ (rules_met t h a.0.storage result.0) (λ u e.
    headed_lawful f (viewed s (take s.scope.outer_names s.scope.names) s.scope.tags 0 s.scope.outer_tags [] 0) s.locals s.site (names_here s.scope) h (named_here t.scope h.name) g.body b
    (named_here_stands m (viewed s (take s.scope.outer_names s.scope.names) s.scope.tags 0 s.scope.outer_tags [] 0) h.name b.state) e)))

-- ## Tasks

-- the function of a task
abbrev task_function : Function
task_function = record { result = void_number; parameters = []; defined = true }

-- a name and a function are added
task_state : (m : ℕ) (s : State) (n : Name) → IsLawfulState m s → IsLawfulState m (in_scope s (task_scope s.scope n)) × Builds s (in_scope s (task_scope s.scope n))
task_state m s n l =
    let v : Scope = s.scope in
    let fs : List Function = v.functions ++ task_function ∷ [] in
    let b : Binding = record { name = n; named = Names.Task } in
    let t : State = in_scope s (task_scope v n) in
    let g : TablesGrow v t.scope = rescoped_grows v (v.names ++ b ∷ []) v.tags v.outer_names v.outer_tags fs in
    let longer = length-append v.functions (task_function ∷ []) in
    let k : Keeps s t = record { grown = g; functions = omega (arith, longer); objects = λ o n e. e; statics = omega arith } in (
      record {
        tables = rescoped_lawful v (v.names ++ b ∷ []) v.tags v.outer_names v.outer_tags fs l.tables l.tables.tags;
        names = All-push (λ (b : Binding). IsBound m t b.named) v.names b (all_bound m s t k v.names l.names) tt;
        linkage = all_linked s t k s.linkage l.linkage;
        functions = All-push (IsFunction t.scope) v.functions task_function (functions_stay v t.scope g v.functions l.functions)
            (record { result = void_is_type v l.tables; parameters = All-nil (IsType t.scope) });
        statics = statics_stay v t.scope g s.statics l.statics;
        locals = locals_stay v t.scope g s.locals l.locals;
        uses = all_uses s t k s.uses l.uses;
        constants = l.constants;
        labels = l.labels;
      },
      record { grown = g; count = omega (arith, longer); functions = λ n x e. (x, got_function v.functions (task_function ∷ []) n x e, same_function x); objects = λ k n e. e; statics = omega arith },
    )

-- a task with its body
task_lawful : (f : FileState) (s : State) (priority : ℕ) (n : Name) (q : Place) (b : FoundBody) → IsLawfulFile f → IsLawfulState (mutexes_of f) s → Builds f.state s
    → s.scope.functions ≡ f.state.scope.functions ++ task_function ∷ [] → Ended (mutexes_of f) s void_number b → IsLawfulFile (with_task f priority n q b (to_file b.state))
task_lawful f s priority n q b h l builds same e =
    let w : State = to_file b.state in
    let x : TypedFunctionTree = record { name = n; place = q; result = void_number; parameters = []; body = Some b.body } in
    let t : TypedTask = record { function = length f.functions; priority = priority } in
    let g : FileState = with_task f priority n q b w in
    let more = length-append f.functions (x ∷ []) in
    let all : Builds f.state w = builds_on f.state s w builds e.builds in
    let alike : map type_of_typed (f.functions ++ x ∷ []) ≡ map type_of_function w.scope.functions =
    map-append type_of_typed f.functions (x ∷ []) ∙ ap (λ (ts : List (ℕ × List ℕ)). ts ++ (void_number, []) ∷ []) h.alike
    ∙ sym (map-append type_of_function f.state.scope.functions (task_function ∷ [])) ∙ ap (map type_of_function) (sym (e.same ∙ same)) in
    let count : length (f.functions ++ x ∷ []) ≡ length w.scope.functions = count_alike g alike in
    record {
      state = e.lawful;
      locals = e.empty;
      alike = alike;
      graph = let a = length-append f.calls (b.calls ∷ []) in let i = h.graph in omega (arith, more, a, i);
      callees = All-push (All (λ (j : ℕ). j < length (f.functions ++ x ∷ []))) f.calls b.calls (all_calls (length f.functions) (length (f.functions ++ x ∷ [])) (omega (arith, more)) f.calls h.callees)
          (All-weaker (λ (j : ℕ). j < length w.scope.functions) (λ (j : ℕ). j < length (f.functions ++ x ∷ [])) (λ j i. omega (arith, i, count)) b.calls e.calls);
      bodies = All-push (HasBody g) f.functions x (bodies_stay f g h.state all (omega arith) f.functions h.bodies)
          (e.type, record { locals = e.locals; returned = void_number; type = e.type; same = eq-eqb (entry w.scope void_number).class (entry w.scope void_number).class refl; statements = e.statements });
      tasks = All-push (λ (t : TypedTask). t.function < length (f.functions ++ x ∷ [])) f.tasks t (all_tasks (length f.functions) (length (f.functions ++ x ∷ [])) (omega (arith, more)) f.tasks h.tasks)
          (omega (arith, more));
    }

named_task_lawful : (f : FileState) (priority : ℕ) (n : Name) (q : Place) (parts : PartTrees) → IsLawfulFile f → OnAnswer IsLawfulFile (named_task_in f priority n q parts)
named_task_lawful f priority n q parts h =
    let m : ℕ = mutexes_of f in
    let s : State = in_scope f.state (task_scope f.state.scope n) in
    let a = task_state m f.state n h.state in
    let v : State = viewed s s.scope.names s.scope.tags (length s.scope.names) (length s.scope.tags) [] 0 in
    let b : Builds s v = builds_view s s.scope.names s.scope.tags (length s.scope.names) (length s.scope.tags) [] 0 in
    let good : IsLawfulState m v = viewed_lawful m s s.scope.names s.scope.tags (length s.scope.names) (length s.scope.tags) [] 0 a.0
    (all_bound m s v (builds_keep s v h.locals b) s.scope.names a.0.names) a.0.tables.tags (All-nil (λ (o : LocalEntry). IsType s.scope o.of.number)) in
    on_row IsLawfulFile (is_declared_here f.state n || is_some (linked f.state n)) Kinds.Redeclared q _ (λ x.
    then_on (Ended m s void_number) IsLawfulFile (body_in v void_number parts) _
    (body_ends m s v [] void_number parts a.0 h.locals good b refl (sym (append-nil s.scope.names)) refl (void_is_type v.scope good.tables)) (λ y e.
    task_lawful f s priority n q y h a.0 a.1 refl e))

all_task_lawful : (f : FileState) (t : Tree) (n : Name) (q : Place) (parts : PartTrees) (p : Place) → IsLawfulFile f → OnAnswer IsLawfulFile (task_in f t n q parts p)
all_task_lawful f t n q parts p h =
    let m : ℕ = mutexes_of f in
    then_on (λ (a : OperandTree × State). Evaluates m f.state a × (a.1.locals ≡ f.state.locals)) IsLawfulFile (measured f.state t) _
    (both (Evaluates m f.state) (λ (a : OperandTree × State). a.1.locals ≡ f.state.locals) (measured f.state t) (measured_continues m f.state t h.state) (measured_locals f.state t)) (λ a x.
    on_row_unless (λ (k : ℕ). Unit {0}) IsLawfulFile (priority_of (folded_value a.0)) Kinds.BadTask p _ (some_any (priority_of (folded_value a.0))) (λ priority i.
    named_task_lawful (with_state f a.1) priority n q parts
    (state_lawful f a.1 h x.0.0.lawful (builds_by m f.state a.1 x.0.0) (x.1 ∙ h.locals) x.0.0.functions)))

-- ## Mutexes

-- there are more mutexes
more_bound : (m n : ℕ) (s : State) → m ≤ n → (x : Named) → IsBound m s x → IsBound n s x
more_bound m n s l (Names.Object o q) h = h
more_bound m n s l (Names.Function f) h = h
more_bound m n s l (Names.Alias q) h = h
more_bound m n s l Names.Task h = tt
more_bound m n s l (Names.Mutex i) h = omega (arith, l, h)
more_bound m n s l (Names.Enumerator z) h = h

more_mutexes : (m n : ℕ) (s : State) → m ≤ n → IsLawfulState m s → IsLawfulState n s
more_mutexes m n s l h = record {
  tables = h.tables;
  names = All-weaker (λ (b : Binding). IsBound m s b.named) (λ (b : Binding). IsBound n s b.named) (λ b. more_bound m n s l b.named) s.scope.names h.names;
  linkage = h.linkage;
  functions = h.functions;
  statics = h.statics;
  locals = h.locals;
  uses = h.uses;
  constants = h.constants;
  labels = h.labels;
}

mutex_lawful : (f : FileState) (n : Name) (p : Place) → IsLawfulFile f → OnAnswer IsLawfulFile (mutex_in f n p)
mutex_lawful f n p h =
    let x : MutexEntry = record { name = n; place = p } in
    let mutexes : List MutexEntry = f.mutexes ++ x ∷ [] in
    let more = length-append f.mutexes (x ∷ []) in
    let t : State = in_scope f.state (with_name n (Names.Mutex (length f.mutexes)) f.state.scope) in
    let g : FileState = record f { state = t; mutexes = mutexes } in
    let c : Continues (length mutexes) f.state t = name_continues (length mutexes) f.state n (Names.Mutex (length f.mutexes)) (more_mutexes (length f.mutexes) (length mutexes) f.state (omega (arith, more)) h.state) (omega (arith, more)) in
    on_row IsLawfulFile (is_declared_here f.state n) Kinds.Redeclared p (Ok g) (λ e. record {
      state = c.lawful;
      locals = h.locals;
      alike = h.alike;
      graph = h.graph;
      callees = h.callees;
      bodies = bodies_stay f g h.state (builds_by (length mutexes) f.state t c) (omega (arith, more)) f.functions h.bodies;
      tasks = h.tasks;
    })

-- ## Items

declaration_lawful : (f : FileState) (d : DeclarationTree) → IsLawfulFile f → OnAnswer IsLawfulFile (then_with (file_declaration f.state d) (λ s. Ok (with_state f s)))
declaration_lawful f d h =
    let m : ℕ = mutexes_of f in
    then_on (λ (t : State). Continues m f.state t × SameState f.state t) IsLawfulFile (file_declaration f.state d) (λ s. Ok (with_state f s))
    (both (Continues m f.state) (SameState f.state) (file_declaration f.state d) (file_declaration_continues m f.state d h.state) (file_declaration_same f.state d)) (λ t x.
    state_lawful f t h x.0.lawful (builds_by m f.state t x.0) (x.1 ∙ h.locals) x.0.functions)

item_lawful : (f : FileState) (i : ItemTree) → IsLawfulFile f → OnAnswer IsLawfulFile (item_in f i)
item_lawful f (a_declaration d) h = declaration_lawful f d h
item_lawful f (a_function g) h = function_lawful f g h
item_lawful f an_empty_item h = h
item_lawful f (a_mutex n p) h = mutex_lawful f n p h
item_lawful f (a_task t n q parts p) h = all_task_lawful f t n q parts p h

items_lawful : (f : FileState) (is : List ItemTree) → IsLawfulFile f → OnAnswer IsLawfulFile (items_in f is)
items_lawful f [] h = h
items_lawful f (i ∷ is) h = then_on IsLawfulFile IsLawfulFile (item_in f i) (λ g. items_in g is) (item_lawful f i h) (λ g k. items_lawful g is k)

-- ## Before the first item

int_row : (t : IntType) → IsRow first_scope (int_entry t)
int_row t = record { made = tt; class = omega (arith, int_basic t); alike = form_of t; cells = refl; abstract_cells = refl; size = bytes_small t }
  where
    form_of : (t : IntType) → form (ctype_of first_scope (int_number t)) ≡ form (Types.Int t)
    form_of Ints.Bool = refl
    form_of Ints.Char = refl
    form_of Ints.UChar = refl
    form_of Ints.Short = refl
    form_of Ints.UShort = refl
    form_of Ints.Int = refl
    form_of Ints.UInt = refl
    form_of Ints.Long = refl
    form_of Ints.ULong = refl
    form_of Ints.LLong = refl
    form_of Ints.ULLong = refl

void_row : IsRow first_scope no_type
void_row = record { made = tt; class = omega arith; alike = refl; cells = refl; abstract_cells = refl; size = omega arith }

-- a type that is made of no other
abbrev IsBasic : CType → Type 0
IsBasic Types.Void = Unit {0}
IsBasic (Types.Int t) = Unit {0}
IsBasic t = ⊥

abbrev all_ints : List IntType
all_ints = Ints.Bool ∷ Ints.Char ∷ Ints.UChar ∷ Ints.Short ∷ Ints.UShort ∷ Ints.Int ∷ Ints.UInt ∷ Ints.Long ∷ Ints.ULong ∷ Ints.LLong ∷ Ints.ULLong ∷ Ints.Int ∷ []

first_all : (P : TypeEntry → Type 0) → P no_type → ((t : IntType) → P (int_entry t)) → All P first_types
first_all P v i = All-cons P no_type (map int_entry all_ints) v (All-map P int_entry all_ints (λ k d l. i (get_or all_ints k d)))

first_basic : (n : ℕ) → n < 13 → IsBasic (ctype_of first_scope n)
first_basic n l = All-get_or (λ (e : TypeEntry). IsBasic e.ctype) first_types n no_type l (first_all (λ (e : TypeEntry). IsBasic e.ctype) tt (λ t. tt))

first_tables : AreLawfulTables first_scope
first_tables = record {
  basic = omega arith;
  rows = first_all (IsRow first_scope) void_row int_row;
  structures = All-nil (IsStructure first_scope);
  numbers = λ k l. absurd (omega (arith, l));
  tags = All-nil (λ (b : TagBinding). IsTag first_scope b.tagged);
  ranks = record {
    rank = λ n. n;
    below = λ n l. omega (arith, l);
    elements = λ n e m l q. absurd (subst IsBasic q (first_basic n l));
    members = λ n k l q. absurd (subst IsBasic q (first_basic n l));
  };
}

first_lawful : IsLawfulFile first_file_state
first_lawful = record {
  state = record {
    tables = first_tables;
    names = All-nil (λ (b : Binding). IsBound 0 first_state b.named);
    linkage = All-nil (λ (b : Binding). IsLinked first_state b.named);
    functions = All-nil (IsFunction first_scope);
    statics = All-nil (λ (o : Static). IsType first_scope o.of.number);
    locals = All-nil (λ (o : LocalEntry). IsType first_scope o.of.number);
    uses = All-nil (λ (u : Use). IsUse first_state u.used);
    constants = All-nil IsNumber;
    labels = All-nil IsNumber;
  };
  locals = refl;
  alike = refl;
  graph = refl;
  callees = All-nil (All (λ (g : ℕ). g < 0));
  bodies = All-nil (HasBody first_file_state);
  tasks = All-nil (λ (t : TypedTask). t.function < 0);
}

pub file_lawful : (items : List ItemTree) → OnAnswer IsLawfulFile (items_in first_file_state items)
file_lawful items = items_lawful first_file_state items first_lawful
