-- The bodies of functions in typed files are regular.
use Rattle.std.proofs.Common.{◌≡◌, ℕ, zero, suc, ◌<◌, List, [], ◌∷◌, ◌++◌, length, get_or, refl, sym, subst}
use Rattle.std.proofs.Common.{ap, ◌∙◌, arith}
use Rattle.std.specs.Prelude.{Bool, option_map, true, false, not, ◌||◌, ◌&&◌, ◌==◌, All, map, take}
use Rattle.std.specs.Prelude.{slice_get, Option, Some}
use Rattle.std.specs.Prelude.{None}
use Rattle.std.proofs.lemmas.Bool.{false≢true, eq-eqb, eqb-true, and_parts, not-false}
use Rattle.std.proofs.lemmas.Option.{slice_get-get_or}
use Rattle.std.proofs.lemmas.List.{append-nil, take_at}
use Rattle.std.proofs.lemmas.List.Elements.{All-weaker, All-nil, All-head, All-tail, All-push, All-append, All-set}
use Rattle.std.proofs.lemmas.List.Elements.{All-get_or, All-drop, All-map}
use Rattle.cell_layout.specs.tm_terms.declared.places.Place.{Place}
use Rattle.cell_layout.specs.tm_terms.declared.tokens.Name.{Name}
use Rattle.cell_layout.specs.tm_terms.declared.refusals.Kind.TheVariants as Kinds
use Rattle.cell_layout.specs.tm_trees.DeclarationTrees.{declared_name}
use Rattle.cell_layout.specs.tm_trees.FileTrees.{ParameterTree, a_named_parameter, an_unnamed_parameter, ParametersTree}
use Rattle.cell_layout.specs.tm_trees.FileTrees.{only_void, some_parameters}
use Rattle.cell_layout.specs.tm_trees.FileTrees.{PartTrees, FunctionTree}
use Rattle.cell_layout.specs.tm_typed.declared.types.CType.{CType}
use Rattle.cell_layout.specs.tm_typed.declared.types.CType.TheVariants as Types
use Rattle.cell_layout.specs.tm_typed.declared.types.TypeEntry.{TypeEntry}
use Rattle.cell_layout.specs.tm_typed.declared.types.Scalar.{Scalar}
use Rattle.cell_layout.specs.tm_typed.declared.types.Scalar.TheVariants as Scalars
use Rattle.cell_layout.specs.tm_typed.declared.scopes.Binding.{Binding}
use Rattle.cell_layout.specs.tm_typed.declared.scopes.Named.{Named}
use Rattle.cell_layout.specs.tm_typed.declared.scopes.Named.TheVariants as Names
use Rattle.cell_layout.specs.tm_typed.declared.scopes.ObjectNumber.{ObjectNumber}
use Rattle.cell_layout.specs.tm_typed.declared.scopes.ObjectNumber.TheVariants as Objects
use Rattle.cell_layout.specs.tm_typed.declared.specifiers.Said.{Said}
use Rattle.cell_layout.specs.tm_typed.declared.specifiers.Shape.{Shape}
use Rattle.cell_layout.specs.tm_typed.declared.files.LocalEntry.{LocalEntry}
use Rattle.cell_layout.specs.tm_typed.Scopes.{Scope, Function, entry, ctype_of, is_same_type, named_here}
use Rattle.cell_layout.specs.tm_typed.Operands.{scalar_by, scalar_of}
use Rattle.cell_layout.specs.tm_typed.States.{State, Static, static, in_scope}
use Rattle.cell_layout.specs.tm_typed.Specifiers.{base}
use Rattle.cell_layout.specs.tm_typed.Declarators.{declared, declared_pointers}
use Rattle.cell_layout.specs.tm_typed.Structures.{declared_place, is_declared_here, specified}
use Rattle.cell_layout.specs.tm_typed.StatementRules.{in_body}
use Rattle.cell_layout.specs.tm_typed.StatementTyping.{enter, parts_in}
use Rattle.cell_layout.specs.tm_typed.Functions.{is_by_value, is_of_void, parameter_rules, no_name, first_place}
use Rattle.cell_layout.specs.tm_typed.Functions.{parameter_in}
use Rattle.cell_layout.specs.tm_typed.Functions.{listed_parameters, parameters_in, left_names, to_file, names_here}
use Rattle.cell_layout.specs.tm_typed.Functions.{body_begins}
use Rattle.cell_layout.specs.tm_typed.Functions.{types_of}
use Rattle.cell_layout.specs.tm_typed.Functions.{are_same_types, Head, no_function, function, with_function, number_of}
use Rattle.cell_layout.specs.tm_typed.Functions.{agrees}
use Rattle.cell_layout.specs.tm_typed.Functions.{disagrees, clashes_with, function_rules, TypedBodyTree, FoundBody}
use Rattle.cell_layout.specs.tm_typed.Functions.{body_in}
use Rattle.cell_layout.specs.tm_typed.Files.{TypedFunctionTree, FileState, no_typed_function}
use Rattle.cell_layout.specs.tm_typed.Files.{typed_function}
use Rattle.cell_layout.specs.tm_typed.Files.{declared_function, defined_function, head_of, with_body, with_state}
use Rattle.cell_layout.specs.tm_typed.Files.{function_in}
use Rattle.cell_layout.specs.tm_typed.WellTyped.{OnAnswer}
use Rattle.typed_file_laws.specs.Tables.{IsType, form, AreLawfulTables}
use Rattle.typed_file_laws.specs.Lawful.{object_type, context, IsBound, IsFunction, IsLawfulState}
use Rattle.typed_file_laws.specs.LawfulFiles.{type_of_function, body_context, IsLawfulFile}
use Rattle.typed_file_laws.proofs.low.typing_laws.Steps.{then_on}
use Rattle.typed_file_laws.proofs.RuleSteps.{on_row, OnSome, answer_weaker}
use Rattle.typed_file_laws.proofs.TableGrowth.{TablesGrow, type_stays, entry_stays}
use Rattle.typed_file_laws.proofs.TableRows.{row_at}
use Rattle.typed_file_laws.proofs.TypeShapes.{base_type}
use Rattle.typed_file_laws.proofs.StateSteps.{Keeps, AreBound, all_bound}
use Rattle.typed_file_laws.proofs.StateSteps.{AreLocals, locals_stay, Continues}
use Rattle.typed_file_laws.proofs.SpecifierSteps.{pointers_continue, Says, specified_says}
use Rattle.typed_file_laws.proofs.StatementSteps.{enter_lawful}
use Rattle.typed_file_laws.proofs.SameLocals.{specified_same}
use Rattle.typed_file_laws.proofs.FunctionSteps.{parameters_continue, Builds, builds_on}
use Rattle.typed_file_laws.proofs.FunctionSteps.{builds_by, viewed, builds_view, builds_keep, viewed_lawful, Heads}
use Rattle.typed_file_laws.proofs.FunctionSteps.{new_head, further_head, rules_met, named_here_stands, agrees_there}
use Rattle.typed_file_laws.proofs.FileSteps.{both, within, Ended, body_ends, mutexes_of, type_alike}
use Rattle.typed_file_laws.proofs.FileSteps.{count_alike, further_types, further_lawful, new_lawful}
use Rattle.typed_file_laws.proofs.ItemSteps.{BeforeHead}
use Rattle.next_action_laws.specs.Regular.{AreRegular, AreParameters}
use Rattle.next_action_laws.proofs.SameStatics.{kept_in, SameState, declared_same}
use Rattle.next_action_laws.proofs.SameStatics.{specified_same as statics_kept}
use Rattle.next_action_laws.proofs.FilledStates.{AreFilledIn, same_objects}
use Rattle.next_action_laws.proofs.FilledStates.{further_same}
use Rattle.next_action_laws.proofs.RegularStatements.{Later, all_stay, AllRegular, all_regular}

-- ## Types that are the same but for `const`

abbrev by_form : ℕ → CType → Option Scalar
by_form c (Types.Int t) = Some (Scalars.Int t)
by_form c (Types.Pointer q) = Some (Scalars.Pointer c)
by_form c t = None

scalar_by_form : (e : TypeEntry) (t : CType) → scalar_by e t ≡ by_form e.class (form t)
scalar_by_form e Types.Void = refl
scalar_by_form e (Types.Int t) = refl
scalar_by_form e (Types.Pointer q) = refl
scalar_by_form e (Types.Array f n) = refl
scalar_by_form e (Types.Struct k) = refl

-- they have cells of the same scalar type
same_scalar : (v : Scope) → AreLawfulTables v → (a b : ℕ) → IsType v a → IsType v b → is_same_type v a b ≡ true
    → scalar_of v a ≡ scalar_of v b
same_scalar v h a b i j s =
    let c : (entry v a).class ≡ (entry v b).class = eqb-true (entry v a).class (entry v b).class s in
    let f : form (ctype_of v a) ≡ form (ctype_of v b) = sym (row_at v h.rows a i).alike
    ∙ ap (λ (x : ℕ). form (ctype_of v x)) c ∙ (row_at v h.rows b j).alike in
    scalar_by_form (entry v a) (ctype_of v a) ∙ ap (λ (x : ℕ). by_form x (form (ctype_of v a))) c
    ∙ ap (λ (t : CType). by_form (entry v b).class t) f
    ∙ sym (scalar_by_form (entry v b) (ctype_of v b))

class_stays : (v w : Scope) → TablesGrow v w → (a b : ℕ) → IsType v a → IsType v b → is_same_type v a b ≡ true
    → is_same_type w a b ≡ true
class_stays v w g a b i j h =
    subst (λ (e : TypeEntry). (e.class == (entry w b).class) ≡ true) (sym (entry_stays v w g a i))
    (subst (λ (e : TypeEntry). ((entry v a).class == e.class) ≡ true) (sym (entry_stays v w g b j)) h)

-- ## Parameters

-- objects of types that are those of the parameters but for `const`
abbrev pub ParametersOf : Scope → List ℕ → List LocalEntry → Type 0
ParametersOf v [] ls = Unit {0}
ParametersOf v (n ∷ ns) [] = ⊥
ParametersOf v (n ∷ ns) (l ∷ ls) = IsType v n × IsType v l.of.number × (is_same_type v l.of.number n ≡ true)
    × ParametersOf v ns ls

parameters_stay : (v w : Scope) → TablesGrow v w → (ns : List ℕ) (ls : List LocalEntry) → ParametersOf v ns ls
    → ParametersOf w ns ls
parameters_stay v w g [] ls h = tt
parameters_stay v w g (n ∷ ns) [] h = absurd h
parameters_stay v w g (n ∷ ns) (l ∷ ls) h = (
  type_stays v w g n h.0,
  type_stays v w g l.of.number h.1,
  class_stays v w g l.of.number n h.1 h.0 h.2,
  parameters_stay v w g ns ls h.3,
)

parameters_before : (v : Scope) (ns : List ℕ) (ls more : List LocalEntry) → ParametersOf v ns ls
    → ParametersOf v ns (ls ++ more)
parameters_before v [] ls more h = tt
parameters_before v (n ∷ ns) [] more h = absurd h
parameters_before v (n ∷ ns) (l ∷ ls) more h = (h.0, h.1, h.2, parameters_before v ns ls more h.3)

pub parameters_are : (v : Scope) → AreLawfulTables v → (ns : List ℕ) (ls : List LocalEntry) → ParametersOf v ns ls
    → AreParameters v ns ls
parameters_are v h [] ls p = tt
parameters_are v h (n ∷ ns) [] p = absurd p
parameters_are v h (n ∷ ns) (l ∷ ls) p = (same_scalar v h l.of.number n p.1 p.0 p.2, parameters_are v h ns ls p.3)

parameters_agree : (v : Scope) (ns : List ℕ) (ls : List LocalEntry) → AreLocals v ls → All (IsType v) ns
    → are_same_types v (types_of ls) ns ≡ true → ParametersOf v ns ls
parameters_agree v [] ls h k e = tt
parameters_agree v (n ∷ ns) [] h k e = absurd (false≢true e)
parameters_agree v (n ∷ ns) (l ∷ ls) h k e =
    let both = and_parts (is_same_type v l.of.number n) (are_same_types v (types_of ls) ns) e in (
      All-head (IsType v) n ns k,
      All-head (λ (o : LocalEntry). IsType v o.of.number) l ls h,
      both.0,
      parameters_agree v ns ls (All-tail (λ (o : LocalEntry). IsType v o.of.number) l ls h) (All-tail (IsType v) n ns k)
          both.1,
    )

own_parameters : (v : Scope) (ls : List LocalEntry) → AreLocals v ls → ParametersOf v (types_of ls) ls
own_parameters v [] h = tt
own_parameters v (l ∷ ls) h =
    let i : IsType v l.of.number = All-head (λ (o : LocalEntry). IsType v o.of.number) l ls h in (
      i,
      i,
      eq-eqb (entry v l.of.number).class (entry v l.of.number).class refl,
      own_parameters v ls (All-tail (λ (o : LocalEntry). IsType v o.of.number) l ls h),
    )

-- ## Files

abbrev pub OnRegular : FileState → TypedFunctionTree → Option TypedBodyTree → Type 0
OnRegular f x None = Unit {0}
OnRegular f x (Some b) = ParametersOf f.state.scope x.parameters b.locals
    × AreRegular (body_context f b.locals) false false b.statements

abbrev pub IsRegularIn : FileState → TypedFunctionTree → Type 0
IsRegularIn f x = OnRegular f x x.body

abbrev pub IsRegularFile : FileState → Type 0
IsRegularFile f = All (IsRegularIn f) f.functions × AreFilledIn f.state

-- the same objects of static storage, where the tables grow
pub same_filled : (s t : State) → AreLawfulTables s.scope → TablesGrow s.scope t.scope → t.statics ≡ s.statics
    → t.uses ≡ s.uses → AreFilledIn s → AreFilledIn t
same_filled s t h g e u f =
    same_objects s t (record {
      lawful = h;
      grown = g;
      types = λ k n q. subst (λ (os : List Static). option_map (λ (x : Static). x.of.number) (slice_get os k) ≡ Some n)
          (sym e) q;
      more = [];
      uses = u ∙ sym (append-nil s.uses);
    }) e f

body_later : (m n : ℕ) (s t : State) (locals : List LocalEntry) → AreLawfulTables s.scope → TablesGrow s.scope t.scope
    → Later (within m s locals) (within n t locals)
body_later m n s t locals h g = record { lawful = h; grown = g; objects = λ k i e. e }

function_stays : (f g : FileState) → AreLawfulTables f.state.scope → TablesGrow f.state.scope g.state.scope
    → (x : TypedFunctionTree) (b : Option TypedBodyTree) → OnRegular f x b → OnRegular g x b
function_stays f g h t x None k = tt
function_stays f g h t x (Some b) k = (
  parameters_stay f.state.scope g.state.scope t x.parameters b.locals k.0,
  all_stay (body_context f b.locals) (body_context g b.locals)
      (body_later (mutexes_of f) (mutexes_of g) f.state g.state b.locals h t) false false b.statements k.1,
)

pub functions_stay_regular : (f g : FileState) → AreLawfulTables f.state.scope → TablesGrow f.state.scope g.state.scope
    → (xs : List TypedFunctionTree) → All (IsRegularIn f) xs → All (IsRegularIn g) xs
functions_stay_regular f g h t xs k =
    All-weaker (IsRegularIn f) (IsRegularIn g) (λ x y. function_stays f g h t x x.body y) xs k

-- ## Bodies

-- a body begins with the objects so far, and is regular behind it
pub record BodyTold (m : ℕ) (v : State) (b : FoundBody) : Type 0 where
  pub more : List LocalEntry
  pub locals : b.body.locals ≡ v.locals ++ more
  pub statements : AreRegular (within m (to_file b.state) b.body.locals) false false b.body.statements
  pub filled : AreFilledIn v → AreFilledIn (to_file b.state)

renamed_grows : (s : State) → TablesGrow s.scope (to_file (body_begins s)).scope
renamed_grows s = record {
  more = [];
  types = sym (append-nil s.scope.types);
  count = omega arith;
  structures = λ k e. refl;
}

pub body_told : (m : ℕ) (v : State) (result : ℕ) (parts : PartTrees) → IsLawfulState m v
    → OnAnswer (BodyTold m v) (body_in v result parts)
body_told m v result parts h =
    then_on (AllRegular m v false false) (BodyTold m v) (parts_in v (in_body result) parts)
    _ (all_regular m v (in_body result) parts h) (λ a c. record {
      more = c.0.declared;
      locals = c.0.locals;
      statements =
          all_stay (context m a.1) (within m (to_file (body_begins a.1)) a.1.locals)
          (body_later m m a.1 (to_file (body_begins a.1)) a.1.locals c.0.lawful.tables (renamed_grows a.1)) false
          false a.0 c.1;
      filled = λ f. same_filled a.1 (to_file (body_begins a.1)) c.0.lawful.tables (renamed_grows a.1) refl refl
          (c.0.filled f);
    })

defined_regular : (f : FileState) (v : State) (k : ℕ) (p : Place) (b : FoundBody) → IsLawfulFile f → IsRegularFile f
    → TablesGrow f.state.scope (to_file b.state).scope → BodyTold (mutexes_of f) v b
    → ParametersOf f.state.scope (let x : TypedFunctionTree = typed_function f k in x.parameters) v.locals
    → AreFilledIn v → IsRegularFile (defined_function f k p b (to_file b.state))
defined_regular f v k p b w r g t q a =
    let old : TypedFunctionTree = typed_function f k in
    let x : TypedFunctionTree = record old { place = p; body = Some b.body } in
    let to : FileState = defined_function f k p b (to_file b.state) in
    let ps : ParametersOf to.state.scope old.parameters b.body.locals =
    subst (λ (ls : List LocalEntry). ParametersOf to.state.scope old.parameters ls) (sym t.locals)
    (parameters_before to.state.scope old.parameters v.locals t.more
    (parameters_stay f.state.scope to.state.scope g old.parameters v.locals q)) in (
      All-set (IsRegularIn to) f.functions k x (ps, t.statements)
          (functions_stay_regular f to w.state.tables g f.functions r.0),
      t.filled a,
    )

-- the state of a file with these objects of a body
abbrev opened_with : FileState → List LocalEntry → ℕ → FileState
opened_with f ls site = with_state f (record f.state { locals = ls; site = site })

body_regular : (f : FileState) (ls : List LocalEntry) (site : ℕ) (p : List Binding) (k : ℕ) (h : Head)
    (parts : Option PartTrees) → IsLawfulFile f → IsRegularFile f → AreLocals f.state.scope ls
    → AreBound (mutexes_of f) (record f.state { locals = ls; site = site }) p → IsType f.state.scope h.result
    → ParametersOf f.state.scope (let x : TypedFunctionTree = typed_function f k in x.parameters) ls
    → OnAnswer IsRegularFile (with_body (opened_with f ls site) p k h parts)
body_regular f ls site p k h None w r li bs t q =
    let s : State = f.state in
    let u : State = viewed s s.scope.names (take s.scope.outer_tags s.scope.tags) s.scope.outer_names 0 [] 0 in
    let b : Builds s u = builds_view s s.scope.names (take s.scope.outer_tags s.scope.tags) s.scope.outer_names 0 []
    0 in (
      functions_stay_regular f (with_state f u) w.state.tables b.grown f.functions r.0,
      same_filled s u w.state.tables b.grown refl refl r.1,
    )
body_regular f ls site p k h (Some parts) w r li bs t q =
    let m : ℕ = mutexes_of f in
    let s : State = f.state in
    let names : List Binding = s.scope.names ++ p in
    let v : State = viewed s names s.scope.tags (length s.scope.names) s.scope.outer_tags ls site in
    let b : Builds s v = builds_view s names s.scope.tags (length s.scope.names) s.scope.outer_tags ls site in
    let bound : AreBound m v names =
    All-append (λ (b : Binding). IsBound m v b.named) s.scope.names p
    (all_bound m s v (builds_keep s v w.locals b) s.scope.names w.state.names)
    (all_bound m (record s { locals = ls; site = site }) v
    (record { grown = b.grown; functions = omega arith; objects = λ o n e. e; statics = omega arith }) p bs) in
    let good : IsLawfulState m v =
    viewed_lawful m s names s.scope.tags (length s.scope.names) s.scope.outer_tags ls site w.state bound
    w.state.tables.tags li in
    then_on (λ (x : FoundBody). Ended m s h.result x × BodyTold m v x) IsRegularFile (body_in v h.result parts) _
    (both (Ended m s h.result) (BodyTold m v) (body_in v h.result parts)
    (body_ends m s v p h.result parts w.state w.locals good b refl refl refl t) (body_told m v h.result parts good))
    (λ x e. defined_regular f v k h.place x w r e.0.builds.grown e.1 q
    (same_filled s v w.state.tables b.grown refl refl r.1))

-- ## Heads with their bodies

with_parameters : (s t : State) (ls : List LocalEntry) (site : ℕ) → Builds s t
    → Keeps (record s { locals = ls; site = site }) (record t { locals = ls; site = site })
with_parameters s t ls site b = record { grown = b.grown; functions = b.count; objects = object; statics = b.statics }
  where
    object : (o : ObjectNumber) (n : ℕ) → object_type s.statics ls o ≡ Some n → object_type t.statics ls o ≡ Some n
    object (Objects.Static k) n e = b.objects k n e
    object (Objects.Local k) n e = e

body_follows : (f : FileState) (s : State) (ls : List LocalEntry) (site : ℕ) (p : List Binding) (h : Head) (k : ℕ)
    (parts : Option PartTrees) (g : FileState)
    → BeforeHead f s ls site p h → Heads (mutexes_of f) s g.state h k → mutexes_of g ≡ mutexes_of f → IsLawfulFile g
    → IsRegularFile g
    → ParametersOf g.state.scope (let x : TypedFunctionTree = typed_function g k in x.parameters) ls
    → OnAnswer IsRegularFile (with_body (with_state g (record g.state { locals = ls; site = site })) p k h parts)
body_follows f s ls site p h k parts g b d m l r q =
    let kept : Keeps (record s { locals = ls; site = site }) (record g.state { locals = ls; site = site }) =
    with_parameters s g.state ls site d.builds in
    let bound : AreBound (mutexes_of g) (record g.state { locals = ls; site = site }) p =
    subst (λ (n : ℕ). AreBound n (record g.state { locals = ls; site = site }) p) (sym m)
    (all_bound (mutexes_of f) (record s { locals = ls; site = site }) (record g.state { locals = ls; site = site }) kept
    p b.names) in
    body_regular g ls site p k h parts l r (locals_stay s.scope g.state.scope d.builds.grown ls b.locals) bound
    (type_stays s.scope g.state.scope d.builds.grown h.result b.result) q

at_last : (xs : List TypedFunctionTree) (x : TypedFunctionTree) (k : ℕ) → length xs ≡ k
    → get_or (xs ++ x ∷ []) k no_typed_function ≡ x
at_last [] x zero e = refl
at_last [] x (suc k) e = absurd (omega (arith, e))
at_last (y ∷ xs) x zero e = absurd (omega (arith, e))
at_last (y ∷ xs) x (suc k) e = at_last xs x k (omega (arith, e))

-- the parameters of a further declaration
further_parameters : (f : FileState) (s : State) (ls : List LocalEntry) (site : ℕ) (p : List Binding) (h : Head) (k : ℕ)
    → BeforeHead f s ls site p h → h.parameters ≡ types_of ls → k < length s.scope.functions
    → disagrees s.scope h (slice_get s.scope.functions k) ≡ false
    → ParametersOf s.scope (let x : TypedFunctionTree = typed_function f k in x.parameters) ls
further_parameters f s ls site p h k b is lt e =
    let v : Scope = s.scope in
    let x : Function = function v k in
    let a : agrees v h x ≡ true =
    not-false (agrees v h x) (subst (λ (o : Option Function). disagrees v h o ≡ false)
    (slice_get-get_or v.functions k no_function lt) e) in
    let first = and_parts (is_same_type v h.result x.result && are_same_types v h.parameters x.parameters)
    (not (h.is_definition && x.defined)) a in
    let second = and_parts (is_same_type v h.result x.result) (are_same_types v h.parameters x.parameters) first.0 in
    let there : IsFunction v x = All-get_or (IsFunction v) v.functions k no_function lt b.state.functions in
    let alike : x.parameters ≡ (let y : TypedFunctionTree = typed_function f k in y.parameters) =
    ap (λ (fs : List Function). let y : Function = get_or fs k no_function in y.parameters) b.same
    ∙ sym (ap (λ (t : ℕ × List ℕ). t.1) (type_alike f.functions f.state.scope.functions k b.file.alike)) in
    subst (λ (ns : List ℕ). ParametersOf v ns ls) alike
    (parameters_agree v x.parameters ls b.locals there.parameters
    (subst (λ (ns : List ℕ). are_same_types v ns x.parameters ≡ true) is second.1))

headed_regular : (f : FileState) (s : State) (ls : List LocalEntry) (site : ℕ) (p : List Binding) (h : Head)
    (already : Option Named) (parts : Option PartTrees) → BeforeHead f s ls site p h
    → h.parameters ≡ types_of ls → IsRegularFile f → OnSome (IsBound (mutexes_of f) s) already
    → clashes_with s h already ≡ false → AreFilledIn s
    → let t : State = record s { locals = ls; site = site } in
    OnAnswer IsRegularFile (with_body
    (declared_function (with_state f t) (in_scope t (with_function s.scope h already)) h already) p
    (number_of s.scope already) h parts)
headed_regular f s ls site p h (Some (Names.Function k)) parts b is r o e a =
    let new : Scope = with_function s.scope h (Some (Names.Function k)) in
    let d : Heads (mutexes_of f) s (in_scope s new) h k =
    further_head (mutexes_of f) s h k h.is_definition refl b.state o (agrees_there s.scope h k o e) in
    let all : Builds f.state (in_scope s new) = builds_on f.state s (in_scope s new) b.builds d.builds in
    body_follows f s ls site p h k parts (with_state f (in_scope s new)) b d refl
    (further_lawful f (in_scope s new) b.file d.lawful all b.empty
    (further_types s.scope k h.is_definition ∙ ap (map type_of_function) b.same)) (
      functions_stay_regular f (with_state f (in_scope s new)) b.file.state.tables all.grown f.functions r.0,
      same_filled s (in_scope s new) b.state.tables d.builds.grown refl refl a,
    )
    (parameters_stay s.scope (in_scope s new).scope d.builds.grown
    (let x : TypedFunctionTree = typed_function f k in x.parameters) ls
    (further_parameters f s ls site p h k b is o e))
headed_regular f s ls site p h None parts b is r o e a =
    let new : Scope = with_function s.scope h None in
    let d : Heads (mutexes_of f) s (in_scope s new) h (length s.scope.functions) =
    new_head (mutexes_of f) s h b.state b.result b.parameters in
    let x : TypedFunctionTree =
    record { name = h.name; place = h.place; result = h.result; parameters = h.parameters; body = None } in
    let y : Function = record { result = h.result; parameters = h.parameters; defined = h.is_definition } in
    let all : Builds f.state (in_scope s new) = builds_on f.state s (in_scope s new) b.builds d.builds in
    let g : FileState = record f
    { state = in_scope s new; functions = f.functions ++ x ∷ []; calls = f.calls ++ [] ∷ [] } in
    let count : length f.functions ≡ length s.scope.functions = count_alike f b.file.alike ∙ ap length (sym b.same) in
    let last : (let z : TypedFunctionTree = typed_function g (length s.scope.functions) in z.parameters) ≡ types_of ls =
    ap (λ (z : TypedFunctionTree). z.parameters) (at_last f.functions x (length s.scope.functions) count) ∙ is in
    body_follows f s ls site p h (length s.scope.functions) parts g b d refl
    (new_lawful f (in_scope s new) x y b.file d.lawful all b.empty (ap (λ (fs : List Function). fs ++ y ∷ []) b.same)
    refl (type_stays s.scope (in_scope s new).scope d.builds.grown h.result b.result) refl) (
      All-push (IsRegularIn g) f.functions x (functions_stay_regular f g b.file.state.tables all.grown f.functions r.0)
          tt,
      same_filled s (in_scope s new) b.state.tables d.builds.grown refl refl a,
    )
    (subst (λ (ns : List ℕ). ParametersOf g.state.scope ns ls) (sym last)
    (own_parameters g.state.scope ls (locals_stay s.scope g.state.scope d.builds.grown ls b.locals)))
headed_regular f s ls site p h (Some (Names.Object x q)) parts b is r o e a = absurd (false≢true (sym e))
headed_regular f s ls site p h (Some (Names.Alias q)) parts b is r o e a = absurd (false≢true (sym e))
headed_regular f s ls site p h (Some Names.Task) parts b is r o e a = absurd (false≢true (sym e))
headed_regular f s ls site p h (Some (Names.Mutex i)) parts b is r o e a = absurd (false≢true (sym e))
headed_regular f s ls site p h (Some (Names.Enumerator z)) parts b is r o e a = absurd (false≢true (sym e))

-- parameters add no objects of static storage, and use nothing
parameter_kept : (s t : State) (b : Bool) (n : Name) (p : Place) (shape : Shape) → SameState s t
    → OnAnswer (SameState s) (parameter_rules t b n p shape)
parameter_kept s t b n p shape e =
    on_row (SameState s) (shape.left_out || is_by_value t.scope shape) Kinds.Unsupported p _ (λ x.
    on_row (SameState s) (b && is_declared_here t n) Kinds.Redeclared p _ (λ y.
    on_row (SameState s) (shape.mismatch || is_of_void t.scope shape) Kinds.Mismatch p _ (λ z. e)))

one_kept : (s : State) (p : ParameterTree) → OnAnswer (SameState s) (parameter_in s p)
one_kept s (a_named_parameter specifiers d) =
    then_on (λ (a : Said × State). kept_in a.1 ≡ kept_in s) (SameState s) (specified s specifiers)
    _ (statics_kept s specifiers) (λ a e.
    then_on (λ (b : Shape × State). kept_in b.1 ≡ kept_in a.1) (SameState s) (declared a.1 (base a.0) d)
    _ (declared_same a.1 (base a.0) d) (λ b f.
    parameter_kept s b.1 true (declared_name d) (declared_place d) b.0 (f ∙ e)))
one_kept s (an_unnamed_parameter specifiers pointers) =
    then_on (λ (a : Said × State). kept_in a.1 ≡ kept_in s) (SameState s) (specified s specifiers)
    _ (statics_kept s specifiers) (λ a e.
    let b : Shape × State = declared_pointers a.1 (base a.0) pointers in
    parameter_kept s b.1 false no_name (first_place specifiers) b.0 e)

all_kept : (s : State) (ps : List ParameterTree) → OnAnswer (SameState s) (listed_parameters s ps)
all_kept s [] = refl
all_kept s (p ∷ ps) =
    then_on (SameState s) (SameState s) (parameter_in s p) _ (one_kept s p) (λ t e.
    answer_weaker (SameState t) (SameState s) (listed_parameters t ps) (λ u f. f ∙ e) (all_kept t ps))

parameters_kept : (s : State) (ps : ParametersTree) → OnAnswer (SameState s) (parameters_in s ps)
parameters_kept s only_void = refl
parameters_kept s (some_parameters ps) = all_kept s ps

entered_grows : (r : State) → TablesGrow r.scope (enter (body_begins r)).scope
entered_grows r = record {
  more = [];
  types = sym (append-nil r.scope.types);
  count = omega arith;
  structures = λ k e. refl;
}

-- what stands behind the parameters of a head
before_head : (f : FileState) (g : FunctionTree) (r : State) (result : Shape) (s : State) → IsLawfulFile f
    → IsLawfulState (mutexes_of f) r → Builds f.state r → r.locals ≡ []
    → r.scope.functions ≡ f.state.scope.functions → IsType r.scope result.of.number
    → Continues (mutexes_of f) (enter (body_begins r)) s
    → BeforeHead f (viewed s (take s.scope.outer_names s.scope.names) s.scope.tags 0 s.scope.outer_tags [] 0) s.locals
    s.site (names_here s.scope) (head_of g result s.locals)
before_head f g r result s w h b none same i c =
    let m : ℕ = mutexes_of f in
    let r0 : State = viewed r r.scope.names r.scope.tags r.scope.outer_names r.scope.outer_tags [] 0 in
    let e : State = enter r0 in
    let names : List Binding = take s.scope.outer_names s.scope.names in
    let t : State = viewed s names s.scope.tags 0 s.scope.outer_tags [] 0 in
    let first : Builds r r0 = builds_view r r.scope.names r.scope.tags r.scope.outer_names r.scope.outer_tags [] 0 in
    let second : Builds r0 e =
    builds_view r0 r0.scope.names r0.scope.tags (length r0.scope.names) (length r0.scope.tags) [] 0 in
    let last : Builds s t = builds_view s names s.scope.tags 0 s.scope.outer_tags [] 0 in
    let from : Builds r0 t = builds_on r0 e t second (builds_on e s t (builds_by m e s c) last) in
    let r0_names : AreBound m r0 r.scope.names = all_bound m r r0 (builds_keep r r0 none first) r.scope.names h.names in
    let back : names ≡ r.scope.names =
    ap (λ (n : ℕ). take n s.scope.names) c.outer ∙ ap (λ (bs : List Binding). take (length r.scope.names) bs) c.names
    ∙ take_at r.scope.names c.added (length r.scope.names) refl in
    let bound : AreBound m t names =
    subst (λ (bs : List Binding). AreBound m t bs) (sym back)
    (all_bound m r0 t (builds_keep r0 t refl from) r.scope.names r0_names) in
    let ls : AreLocals t.scope s.locals = locals_stay s.scope t.scope last.grown s.locals c.lawful.locals in
    record {
      file = w;
      state = viewed_lawful m s names s.scope.tags 0 s.scope.outer_tags [] 0 c.lawful bound c.lawful.tables.tags
          (All-nil (λ (o : LocalEntry). IsType s.scope o.of.number));
      builds = builds_on f.state r t b (builds_on r r0 t first from);
      empty = refl;
      same = c.functions ∙ same;
      locals = ls;
      names = all_bound m s (record t { locals = s.locals; site = s.site })
          (record { grown = last.grown; functions = omega arith; objects = λ o n x. x; statics = omega arith })
          (names_here s.scope)
          (All-drop (λ (b : Binding). IsBound m s b.named) s.scope.outer_names s.scope.names c.lawful.names);
      result = type_stays r.scope t.scope (builds_on r r0 t first from).grown result.of.number i;
      parameters = All-map (IsType t.scope) (λ (o : LocalEntry). o.of.number) s.locals ls;
    }

parameters_begin : (f : FileState) (r : State) → IsLawfulState (mutexes_of f) r → r.locals ≡ []
    → IsLawfulState (mutexes_of f) (enter (body_begins r))
parameters_begin f r h none =
    let m : ℕ = mutexes_of f in
    let r0 : State = viewed r r.scope.names r.scope.tags r.scope.outer_names r.scope.outer_tags [] 0 in
    let first : Builds r r0 = builds_view r r.scope.names r.scope.tags r.scope.outer_names r.scope.outer_tags [] 0 in
    enter_lawful m r0 (viewed_lawful m r r.scope.names r.scope.tags r.scope.outer_names r.scope.outer_tags [] 0 h
    (all_bound m r r0 (builds_keep r r0 none first) r.scope.names h.names) h.tables.tags
    (All-nil (λ (o : LocalEntry). IsType r.scope o.of.number)))

pub function_regular : (f : FileState) (g : FunctionTree) → IsLawfulFile f → IsRegularFile f
    → OnAnswer IsRegularFile (function_in f g)
function_regular f g w regular =
    let m : ℕ = mutexes_of f in
    then_on (λ (a : Said × State). (Says m f.state a × (a.1.locals ≡ f.state.locals))
    × (kept_in a.1 ≡ kept_in f.state)) IsRegularFile (specified f.state g.specifiers) _
    (both (λ (a : Said × State). Says m f.state a × (a.1.locals ≡ f.state.locals))
    (λ (a : Said × State). kept_in a.1 ≡ kept_in f.state) (specified f.state g.specifiers)
    (both (Says m f.state) (λ (a : Said × State). a.1.locals ≡ f.state.locals) (specified f.state g.specifiers)
    (specified_says m f.state g.specifiers w.state) (specified_same f.state g.specifiers))
    (statics_kept f.state g.specifiers)) (λ a told.
    let x = told.0 in
    let result : Shape × State = declared_pointers a.1 (base a.0) g.pointers in
    let r : State = result.1 in
    let k = pointers_continue m a.1 (base a.0) g.pointers x.0.0.lawful
    (base_type a.1.scope x.0.0.lawful.tables a.0 x.0.1) in
    let none : r.locals ≡ [] = x.1 ∙ w.locals in
    then_on (λ (u : State). Continues m (enter (body_begins r)) u × SameState (enter (body_begins r)) u) IsRegularFile
    (parameters_in (enter (body_begins r)) g.parameters) _
    (both (Continues m (enter (body_begins r))) (SameState (enter (body_begins r)))
    (parameters_in (enter (body_begins r)) g.parameters)
    (parameters_continue m (enter (body_begins r)) g.parameters (parameters_begin f r k.0.lawful none))
    (parameters_kept (enter (body_begins r)) g.parameters)) (λ s both_kept.
    let c = both_kept.0 in
    let at_result : AreFilledIn r =
    (further_same m a.1 r x.0.0.lawful k.0 refl).filled
    ((further_same m f.state a.1 w.state x.0.0 told.1).filled regular.1) in
    let at_entry : AreFilledIn (enter (body_begins r)) =
    same_filled r (enter (body_begins r)) k.0.lawful.tables (entered_grows r) refl refl at_result in
    let behind : AreFilledIn s =
    (further_same m (enter (body_begins r)) s (parameters_begin f r k.0.lawful none) c both_kept.1).filled at_entry in
    let v : State = viewed s (take s.scope.outer_names s.scope.names) s.scope.tags 0 s.scope.outer_tags [] 0 in
    let at_head : AreFilledIn v =
    same_filled s v c.lawful.tables
    (builds_view s (take s.scope.outer_names s.scope.names) s.scope.tags 0 s.scope.outer_tags [] 0).grown refl refl
    behind in
    let h : Head = head_of g result.0 s.locals in
    let t : State = in_scope s (left_names s.scope) in
    let b : BeforeHead f (viewed s (take s.scope.outer_names s.scope.names) s.scope.tags 0 s.scope.outer_tags [] 0)
    s.locals s.site (names_here s.scope) h =
    before_head f g r result.0 s w k.0.lawful
    (builds_on f.state a.1 r (builds_by m f.state a.1 x.0.0) (builds_by m a.1 r k.0)) none
    (k.0.functions ∙ x.0.0.functions) k.1 c in
    then_on (λ (u : Unit {0}). clashes_with t h (named_here t.scope h.name) ≡ false) IsRegularFile
    (function_rules t h a.0.storage result.0) _ (rules_met t h a.0.storage result.0) (λ u e.
    headed_regular f (viewed s (take s.scope.outer_names s.scope.names) s.scope.tags 0 s.scope.outer_tags [] 0) s.locals
    s.site (names_here s.scope) h (named_here t.scope h.name) g.body b refl regular
    (named_here_stands m (viewed s (take s.scope.outer_names s.scope.names) s.scope.tags 0 s.scope.outer_tags [] 0)
    h.name b.state) e at_head)))
