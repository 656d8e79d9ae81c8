-- The heads of functions: parameters, and the function that is declared.
use Rattle.std.proofs.Common.{◌≡◌, ℕ, ◌<◌, ◌≤◌, zero, suc, List, [], ◌∷◌, ◌++◌, length, get_or, refl, sym, subst, ap, ◌∙◌, arith}
use Rattle.std.specs.Prelude.{Bool, true, false, cond, not, ◌&&◌, ◌||◌, All, drop, slice_get, slice_set, Option, Some, None, option_map, Ok}
use Rattle.std.proofs.lemmas.Bool.{or_parts, and_parts, not-false, false≢true, eq-eqb}
use Rattle.std.proofs.lemmas.Option.{none-some, same_Some, slice_get-get_or}
use Rattle.std.proofs.lemmas.List.{length-append, length-set}
use Rattle.std.proofs.lemmas.List.Elements.{All-weaker, All-push, All-set, All-get_or, All-drop}
use Rattle.tm_laid.specs.tm_terms.declared.places.Place.{Place}
use Rattle.tm_laid.specs.tm_terms.declared.tokens.Name.{Name}
use Rattle.tm_laid.specs.tm_terms.declared.refusals.Kind.TheVariants as Kinds
use Rattle.tm_laid.specs.tm_terms.declared.types_named.Storage.{Storage}
use Rattle.tm_laid.specs.tm_trees.DeclarationTrees.{declared_name}
use Rattle.tm_laid.specs.tm_trees.FileTrees.{ParameterTree, a_named_parameter, an_unnamed_parameter, ParametersTree}
use Rattle.tm_laid.specs.tm_trees.FileTrees.{only_void, some_parameters}
use Rattle.tm_laid.specs.tm_typed.declared.types.Qualified.{Qualified}
use Rattle.tm_laid.specs.tm_typed.declared.types.CType.{CType}
use Rattle.tm_laid.specs.tm_typed.declared.types.CType.TheVariants as Types
use Rattle.tm_laid.specs.tm_typed.declared.scopes.Binding.{Binding}
use Rattle.tm_laid.specs.tm_typed.declared.scopes.TagBinding.{TagBinding}
use Rattle.tm_laid.specs.tm_typed.declared.scopes.Named.{Named}
use Rattle.tm_laid.specs.tm_typed.declared.scopes.Named.TheVariants as Names
use Rattle.tm_laid.specs.tm_typed.declared.scopes.ObjectNumber.{ObjectNumber}
use Rattle.tm_laid.specs.tm_typed.declared.scopes.ObjectNumber.TheVariants as Objects
use Rattle.tm_laid.specs.tm_typed.declared.specifiers.Shape.{Shape}
use Rattle.tm_laid.specs.tm_typed.declared.files.LocalEntry.{LocalEntry}
use Rattle.tm_laid.specs.tm_typed.Scopes.{Scope, Function, entry, ctype_of, is_same_type, named_here, last_declared}
use Rattle.tm_laid.specs.tm_typed.States.{State, in_scope}
use Rattle.tm_laid.specs.tm_typed.Specifiers.{base}
use Rattle.tm_laid.specs.tm_typed.TypeNames.{bare}
use Rattle.tm_laid.specs.tm_typed.Declarators.{declared, declared_pointers}
use Rattle.tm_laid.specs.tm_typed.Structures.{declared_place, is_declared_here, specified}
use Rattle.tm_laid.specs.tm_typed.Functions.{type_in, adjusted_type, adjusted, is_by_value, is_of_void, with_parameter}
use Rattle.tm_laid.specs.tm_typed.Functions.{parameter_rules, no_name, first_place, parameter_in, listed_parameters}
use Rattle.tm_laid.specs.tm_typed.Functions.{parameters_in, are_same_types, Head, no_function, function, agrees}
use Rattle.tm_laid.specs.tm_typed.Functions.{disagrees, clashes_with, number_of, with_function, function_rules}
use Rattle.tm_laid.specs.tm_typed.WellTyped.{OnAnswer, SameFunction}
use Rattle.typed_file_laws.specs.Tables.{IsType, IsTag, AreLawfulTables}
use Rattle.typed_file_laws.specs.Lawful.{object_type, IsBound, IsFunction, IsLawfulState}
use Rattle.typing_laws.proofs.Steps.{then_on}
use Rattle.typed_file_laws.proofs.RuleSteps.{on_row, OnSome}
use Rattle.typed_file_laws.proofs.TableGrowth.{TablesGrow, grow_none, grow_on, type_stays, known_is_type}
use Rattle.typed_file_laws.proofs.TableRows.{Follows, follows_none, type_follows, type_numbered}
use Rattle.typed_file_laws.proofs.TypeShapes.{last_stands, some_map, base_type, stars_sound}
use Rattle.typed_file_laws.proofs.StateSteps.{rescoped_lawful, rescoped_grows, Keeps, AreBound, all_bound, all_linked, all_uses, functions_stay, statics_stay, AreLocals, locals_stay, Continues, continues_none, continues_on, scope_continues, name_continues, elements_known}
use Rattle.typed_file_laws.proofs.SpecifierSteps.{since_state, Declares, declared_continues, pointers_continue, Says, specified_says}
use Rattle.typed_file_laws.proofs.DeclarationSteps.{local_added, local_bound}

-- ## Parameters

-- what an array becomes is a type of the table too
abbrev Adjusts : Scope → Qualified × Scope → Type 0
Adjusts v a = Follows v a.1 × IsType a.1 a.0.number

pointer_adjusts : (v : Scope) (q : Qualified) → AreLawfulTables v → IsType v q.number → Adjusts v (type_in v (Types.Pointer q))
pointer_adjusts v q h t = (type_follows v (Types.Pointer q) h t, type_numbered v (Types.Pointer q) h t)

type_adjusts : (v : Scope) (shape : Shape) (t : CType) → ctype_of v shape.of.number ≡ t → AreLawfulTables v → IsType v shape.of.number → Adjusts v (adjusted_type v shape t)
type_adjusts v shape (Types.Array e n) c h t = pointer_adjusts v (record shape.of { number = e }) h (known_is_type v e (elements_known v h shape.of.number e n c))
type_adjusts v shape Types.Void c h t = (follows_none v h, t)
type_adjusts v shape (Types.Int i) c h t = (follows_none v h, t)
type_adjusts v shape (Types.Pointer q) c h t = (follows_none v h, t)
type_adjusts v shape (Types.Struct k) c h t = (follows_none v h, t)

adjusts_by : (v : Scope) (shape : Shape) (b : Bool) → AreLawfulTables v → IsType v shape.of.number
    → Adjusts v (cond b (type_in v (Types.Pointer shape.of)) (adjusted_type v shape (ctype_of v shape.of.number)))
adjusts_by v shape true h t = pointer_adjusts v shape.of h t
adjusts_by v shape false h t = type_adjusts v shape (ctype_of v shape.of.number) refl h t

adjusts : (v : Scope) (shape : Shape) → AreLawfulTables v → IsType v shape.of.number → Adjusts v (adjusted v shape)
adjusts v shape h t = adjusts_by v shape shape.is_open h t

parameter_named : (m : ℕ) (s : State) (b : Bool) (o : LocalEntry) → IsLawfulState m s → IsType s.scope o.of.number → Continues m s (with_parameter s b o)
parameter_named m s true o h i =
    let t : State = record s { locals = s.locals ++ o ∷ [] } in
    let c : Continues m s t = local_added m s o h i in
    continues_on m s t (with_parameter s true o) c (name_continues m t o.name (Names.Object (Objects.Local (length s.locals)) o.of) c.lawful (local_bound s o))
parameter_named m s false o h i = local_added m s o h i

parameter_continues : (m : ℕ) (s t : State) (b : Bool) (n : Name) (p : Place) (shape : Shape) → Declares m s (shape, t) → OnAnswer (Continues m s) (parameter_rules t b n p shape)
parameter_continues m s t b n p shape h =
    on_row (Continues m s) (shape.left_out || is_by_value t.scope shape) Kinds.Unsupported p _ (λ x.
    on_row (Continues m s) (b && is_declared_here t n) Kinds.Redeclared p _ (λ y.
    on_row (Continues m s) (shape.mismatch || is_of_void t.scope shape) Kinds.Mismatch p _ (λ z.
    let g = h (or_parts shape.mismatch (is_of_void t.scope shape) z).0 in
    let a : Qualified × Scope = adjusted t.scope shape in
    let j : Adjusts t.scope a = adjusts t.scope shape g.0.lawful.tables g.1 in
    let u : State = in_scope t a.1 in
    let c : Continues m t u = scope_continues m t a.1 g.0.lawful j.0 in
    let o : LocalEntry = record { name = n; place = p; of = a.0 } in
    continues_on m s t (with_parameter u b o) g.0 (continues_on m t u (with_parameter u b o) c (parameter_named m u b o c.lawful j.1)))))

one_parameter : (m : ℕ) (s : State) (p : ParameterTree) → IsLawfulState m s → OnAnswer (Continues m s) (parameter_in s p)
one_parameter m s (a_named_parameter specifiers d) h =
    then_on (Says m s) (Continues m s) (specified s specifiers) _ (specified_says m s specifiers h) (λ a g.
    then_on (Declares m a.1) (Continues m s) (declared a.1 (base a.0) d) _ (declared_continues m a.1 (base a.0) d g.0.lawful (base_type a.1.scope g.0.lawful.tables a.0 g.1)) (λ b k.
    since_state m s a.1 (parameter_rules b.1 true (declared_name d) (declared_place d) b.0) g.0 (parameter_continues m a.1 b.1 true (declared_name d) (declared_place d) b.0 k)))
one_parameter m s (an_unnamed_parameter specifiers pointers) h =
    then_on (Says m s) (Continues m s) (specified s specifiers) _ (specified_says m s specifiers h) (λ a g.
    let b : Shape × State = declared_pointers a.1 (base a.0) pointers in
    let k = pointers_continue m a.1 (base a.0) pointers g.0.lawful (base_type a.1.scope g.0.lawful.tables a.0 g.1) in
    since_state m s b.1 (parameter_rules b.1 false no_name (first_place specifiers) b.0) (continues_on m s a.1 b.1 g.0 k.0)
    (parameter_continues m b.1 b.1 false no_name (first_place specifiers) b.0 (λ e. (
      continues_none m b.1 k.0.lawful,
      k.1,
      λ o.
          absurd (false≢true (sym (stars_sound (bare (base a.0), a.1.scope) pointers (refl, refl)).1 ∙ o)),
    ))))

all_parameters : (m : ℕ) (s : State) (ps : List ParameterTree) → IsLawfulState m s → OnAnswer (Continues m s) (listed_parameters s ps)
all_parameters m s [] h = continues_none m s h
all_parameters m s (p ∷ ps) h =
    then_on (Continues m s) (Continues m s) (parameter_in s p) _ (one_parameter m s p h)
    (λ t c. since_state m s t (listed_parameters t ps) c (all_parameters m t ps c.lawful))

pub parameters_continue : (m : ℕ) (s : State) (ps : ParametersTree) → IsLawfulState m s → OnAnswer (Continues m s) (parameters_in s ps)
parameters_continue m s only_void h = continues_none m s h
parameters_continue m s (some_parameters ps) h = all_parameters m s ps h

-- ## What stays from body to body

-- More is found outside of bodies: types, functions of the same types, and objects of static storage.
pub record Builds (s t : State) : Type 0 where
  pub grown : TablesGrow s.scope t.scope
  pub count : length s.scope.functions ≤ length t.scope.functions
  pub functions : (n : ℕ) (f : Function) → slice_get s.scope.functions n ≡ Some f → (g : Function) × (slice_get t.scope.functions n ≡ Some g) × SameFunction f g
  pub objects : (k n : ℕ) → object_type s.statics [] (Objects.Static k) ≡ Some n → object_type t.statics [] (Objects.Static k) ≡ Some n
  pub statics : length s.statics ≤ length t.statics

pub same_function : (f : Function) → SameFunction f f
same_function f = record { result = refl; parameters = refl }

pub builds_on : (s t u : State) → Builds s t → Builds t u → Builds s u
builds_on s t u a b = record {
  grown = grow_on s.scope t.scope u.scope a.grown b.grown;
  count = let x = a.count in let y = b.count in omega (arith, x, y);
  functions = λ n f e.
      let x = a.functions n f e in
      let y = b.functions n x.0 x.1 in
      (y.0, y.1, record { result = x.2.result ∙ y.2.result; parameters = x.2.parameters ∙ y.2.parameters });
  objects = λ k n e. b.objects k n (a.objects k n e);
  statics = let x = a.statics in let y = b.statics in omega (arith, x, y);
}

pub builds_by : (m : ℕ) (s t : State) → Continues m s t → Builds s t
builds_by m s t c = record {
  grown = c.keeps.grown;
  count = c.keeps.functions;
  functions = λ n f e. (f, (let P : List Function → Type 0 = λ fs. slice_get fs n ≡ Some f in subst P (sym c.functions) e), same_function f);
  objects = λ k n e. c.keeps.objects (Objects.Static k) n e;
  statics = c.keeps.statics;
}

-- the same tables, functions and objects of static storage, with other names, tags and objects of a body
abbrev pub viewed : State → List Binding → List TagBinding → ℕ → ℕ → List LocalEntry → ℕ → State
viewed s names tags outer_names outer_tags locals site =
    record s { scope = record s.scope { names = names; tags = tags; outer_names = outer_names; outer_tags = outer_tags }; locals = locals; site = site }

pub builds_view : (s : State) (names : List Binding) (tags : List TagBinding) (outer_names outer_tags : ℕ) (locals : List LocalEntry) (site : ℕ)
    → Builds s (viewed s names tags outer_names outer_tags locals site)
builds_view s names tags outer_names outer_tags locals site = record {
  grown = rescoped_grows s.scope names tags outer_names outer_tags s.scope.functions;
  count = omega arith;
  functions = λ n f e. (f, e, same_function f);
  objects = λ k n e. e;
  statics = omega arith;
}

-- what is named where there are no objects of a body goes on being named
pub builds_keep : (s t : State) → s.locals ≡ [] → Builds s t → Keeps s t
builds_keep s t none b = record {
  grown = b.grown;
  functions = b.count;
  objects = object;
  statics = b.statics;
}
  where
    object : (o : ObjectNumber) (n : ℕ) → object_type s.statics s.locals o ≡ Some n → object_type t.statics t.locals o ≡ Some n
    object (Objects.Static k) n e = b.objects k n e
    object (Objects.Local k) n e =
        let P : List LocalEntry → Type 0 = λ ls. option_map (λ (o : LocalEntry). o.of.number) (slice_get ls k) ≡ Some n in
        absurd (none-some n (subst P none e))

-- a lawful state with other names, tags and objects of a body, which name what there is
pub viewed_lawful : (m : ℕ) (s : State) (names : List Binding) (tags : List TagBinding) (outer_names outer_tags : ℕ) (locals : List LocalEntry) (site : ℕ) → IsLawfulState m s
    → AreBound m (viewed s names tags outer_names outer_tags locals site) names → All (λ (b : TagBinding). IsTag s.scope b.tagged) tags → AreLocals s.scope locals
    → IsLawfulState m (viewed s names tags outer_names outer_tags locals site)
viewed_lawful m s names tags outer_names outer_tags locals site h bs ts ls =
    let t : State = viewed s names tags outer_names outer_tags locals site in
    let g : TablesGrow s.scope t.scope = rescoped_grows s.scope names tags outer_names outer_tags s.scope.functions in record {
      tables = rescoped_lawful s.scope names tags outer_names outer_tags s.scope.functions h.tables ts;
      names = bs;
      linkage = h.linkage;
      functions = functions_stay s.scope t.scope g s.scope.functions h.functions;
      statics = statics_stay s.scope t.scope g s.statics h.statics;
      locals = locals_stay s.scope t.scope g locals ls;
      uses = h.uses;
      constants = h.constants;
      labels = h.labels;
    }

-- ## The function that a head declares

pub got_function : (xs ys : List Function) (n : ℕ) (f : Function) → slice_get xs n ≡ Some f → slice_get (xs ++ ys) n ≡ Some f
got_function [] ys n f e = absurd (none-some f e)
got_function (x ∷ xs) ys zero f e = e
got_function (x ∷ xs) ys (suc n) f e = got_function xs ys n f e

abbrev DefinedAs : List Function → ℕ → Function → Type 0
DefinedAs xs n f = (g : Function) × (slice_get xs n ≡ Some g) × SameFunction f g

got_defined : (xs : List Function) (k n : ℕ) (f : Function) → slice_get xs n ≡ Some f → DefinedAs (slice_set xs k (record (get_or xs k no_function) { defined = true })) n f
got_defined [] k n f e = absurd (none-some f e)
got_defined (x ∷ xs) zero zero f e =
    let same : x ≡ f = same_Some x f e in
    let g : Function = record x { defined = true } in
    (g, refl, record { result = ap (λ (h : Function). h.result) (sym same); parameters = ap (λ (h : Function). h.parameters) (sym same) })
got_defined (x ∷ xs) zero (suc n) f e = (f, e, same_function f)
got_defined (x ∷ xs) (suc k) zero f e = (f, e, same_function f)
got_defined (x ∷ xs) (suc k) (suc n) f e = got_defined xs k n f e

-- The state behind the head of a function is lawful, and the function is in it, with this result but for `const`.
pub record Heads (m : ℕ) (s t : State) (h : Head) (k : ℕ) : Type 0 where
  pub lawful : IsLawfulState m t
  pub builds : Builds s t
  pub there : k < length t.scope.functions
  pub same : is_same_type t.scope h.result (let f : Function = function t.scope k in f.result) ≡ true

at_last : (xs : List Function) (f : Function) → get_or (xs ++ f ∷ []) (length xs) no_function ≡ f
at_last [] f = refl
at_last (x ∷ xs) f = at_last xs f

pub new_head : (m : ℕ) (s : State) (h : Head) → IsLawfulState m s → IsType s.scope h.result → All (IsType s.scope) h.parameters → Heads m s (in_scope s (with_function s.scope h None)) h (length s.scope.functions)
new_head m s h l r ps =
    let v : Scope = s.scope in
    let f : Function = record { result = h.result; parameters = h.parameters; defined = h.is_definition } in
    let fs : List Function = v.functions ++ f ∷ [] in
    let b : Binding = record { name = h.name; named = Names.Function (length v.functions) } in
    let t : State = in_scope s (with_function v h None) in
    let g : TablesGrow v t.scope = rescoped_grows v (v.names ++ b ∷ []) v.tags v.outer_names v.outer_tags fs in
    let longer = length-append v.functions (f ∷ []) in
    let k : Keeps s t = record { grown = g; functions = omega (arith, longer); objects = λ o n e. e; statics = omega arith } in record {
      lawful = record {
        tables = rescoped_lawful v (v.names ++ b ∷ []) v.tags v.outer_names v.outer_tags fs l.tables l.tables.tags;
        names = All-push (λ (b : Binding). IsBound m t b.named) v.names b (all_bound m s t k v.names l.names) (omega (arith, longer));
        linkage = all_linked s t k s.linkage l.linkage;
        functions = All-push (IsFunction t.scope) v.functions f (functions_stay v t.scope g v.functions l.functions) (record { result = type_stays v t.scope g h.result r; parameters = All-weaker (IsType v) (IsType t.scope) (type_stays v t.scope g) h.parameters ps });
        statics = statics_stay v t.scope g s.statics l.statics;
        locals = locals_stay v t.scope g s.locals l.locals;
        uses = all_uses s t k s.uses l.uses;
        constants = l.constants;
        labels = l.labels;
      };
      builds = record { grown = g; count = omega (arith, longer); functions = λ n x e. (x, got_function v.functions (f ∷ []) n x e, same_function x); objects = λ k n e. e; statics = omega arith };
      there = omega (arith, longer);
      same =
          let P : Function → Type 0 = λ x. is_same_type t.scope h.result x.result ≡ true in
          subst P (sym (at_last v.functions f)) (eq-eqb (entry t.scope h.result).class (entry t.scope h.result).class refl);
    }

pub agrees_there : (v : Scope) (h : Head) (k : ℕ) → k < length v.functions → disagrees v h (slice_get v.functions k) ≡ false → is_same_type v h.result (let f : Function = function v k in f.result) ≡ true
agrees_there v h k l e =
    let f : Function = function v k in
    let P : Option Function → Type 0 = λ o. disagrees v h o ≡ false in
    let a : agrees v h f ≡ true = not-false (agrees v h f) (subst P (slice_get-get_or v.functions k no_function l) e) in
    (and_parts (is_same_type v h.result f.result) (are_same_types v h.parameters f.parameters)
    (and_parts (is_same_type v h.result f.result && are_same_types v h.parameters f.parameters) (not (h.is_definition && f.defined)) a).0).0

at_set : (xs : List Function) (k : ℕ) (f : Function) → k < length xs → get_or (slice_set xs k f) k no_function ≡ f
at_set [] k f l = absurd (omega (arith, l))
at_set (x ∷ xs) zero f l = refl
at_set (x ∷ xs) (suc k) f l = at_set xs k f (omega (arith, l))

pub further_head : (m : ℕ) (s : State) (h : Head) (k : ℕ) (b : Bool) → h.is_definition ≡ b → IsLawfulState m s → k < length s.scope.functions
    → is_same_type s.scope h.result (let f : Function = function s.scope k in f.result) ≡ true
    → Heads m s (in_scope s (cond b (record s.scope { functions = slice_set s.scope.functions k (record (function s.scope k) { defined = true }) }) s.scope)) h k
further_head m s h k true d l o same =
    let v : Scope = s.scope in
    let f : Function = record (function v k) { defined = true } in
    let fs : List Function = slice_set v.functions k f in
    let t : State = in_scope s (record v { functions = fs }) in
    let g : TablesGrow v t.scope = rescoped_grows v v.names v.tags v.outer_names v.outer_tags fs in
    let long = length-set v.functions k f in
    let kept : Keeps s t = record { grown = g; functions = omega (arith, long); objects = λ o n e. e; statics = omega arith } in
    let old : IsFunction v (function v k) = All-get_or (IsFunction v) v.functions k no_function o l.functions in record {
      lawful = record {
        tables = rescoped_lawful v v.names v.tags v.outer_names v.outer_tags fs l.tables l.tables.tags;
        names = all_bound m s t kept v.names l.names;
        linkage = all_linked s t kept s.linkage l.linkage;
        functions = functions_stay v t.scope g fs (All-set (IsFunction v) v.functions k f (record { result = old.result; parameters = old.parameters }) l.functions);
        statics = statics_stay v t.scope g s.statics l.statics;
        locals = locals_stay v t.scope g s.locals l.locals;
        uses = all_uses s t kept s.uses l.uses;
        constants = l.constants;
        labels = l.labels;
      };
      builds = record { grown = g; count = omega (arith, long); functions = got_defined v.functions k; objects = λ k n e. e; statics = omega arith };
      there = omega (arith, long, o);
      same =
          let P : Function → Type 0 = λ x. is_same_type t.scope h.result x.result ≡ true in
          subst P (sym (at_set v.functions k f o)) same;
    }
further_head m s h k false d l o same = record { lawful = l; builds = record { grown = grow_none s.scope; count = omega arith; functions = λ n f e. (f, e, same_function f); objects = λ k n e. e; statics = omega arith }; there = o; same = same }

-- a head whose rows are met declares its function
pub headed_by : (m : ℕ) (s : State) (h : Head) (already : Option Named) → IsLawfulState m s → IsType s.scope h.result → All (IsType s.scope) h.parameters
    → OnSome (IsBound m s) already → clashes_with s h already ≡ false → Heads m s (in_scope s (with_function s.scope h already)) h (number_of s.scope already)
headed_by m s h None l r ps b e = new_head m s h l r ps
headed_by m s h (Some (Names.Function k)) l r ps b e = further_head m s h k h.is_definition refl l b (agrees_there s.scope h k b e)
headed_by m s h (Some (Names.Object o q)) l r ps b e = absurd (false≢true (sym e))
headed_by m s h (Some (Names.Alias q)) l r ps b e = absurd (false≢true (sym e))
headed_by m s h (Some Names.Task) l r ps b e = absurd (false≢true (sym e))
headed_by m s h (Some (Names.Mutex i)) l r ps b e = absurd (false≢true (sym e))
headed_by m s h (Some (Names.Enumerator z)) l r ps b e = absurd (false≢true (sym e))

-- the rows of a head that is not refused
pub rules_met : (s : State) (h : Head) (storage : Option Storage) (result : Shape) → OnAnswer (λ (u : Unit {0}). clashes_with s h (named_here s.scope h.name) ≡ false) (function_rules s h storage result)
rules_met s h storage result =
    on_row (λ (u : Unit {0}). clashes_with s h (named_here s.scope h.name) ≡ false) (result.left_out || is_by_value s.scope result) Kinds.Unsupported h.place _ (λ a.
    on_row (λ (u : Unit {0}). clashes_with s h (named_here s.scope h.name) ≡ false) (clashes_with s h (named_here s.scope h.name)) Kinds.Redeclared h.place _ (λ b.
    on_row (λ (u : Unit {0}). clashes_with s h (named_here s.scope h.name) ≡ false) _ Kinds.Mismatch h.place (Ok tt) (λ c. b)))

pub named_here_stands : (m : ℕ) (s : State) (n : Name) → IsLawfulState m s → OnSome (IsBound m s) (named_here s.scope n)
named_here_stands m s n h =
    let here : List Binding = drop s.scope.outer_names s.scope.names in
    some_map (IsBound m s) (λ (b : Binding). b.named) (last_declared (λ (b : Binding). b.name) n here)
    (last_stands (λ (b : Binding). IsBound m s b.named) (λ (b : Binding). b.name) n here (All-drop (λ (b : Binding). IsBound m s b.named) s.scope.outer_names s.scope.names h.names))
