-- Initialisers and declarations keep states lawful, and give values of the cells' types.
use Rattle.std.proofs.Common.{◌≡◌, ℕ, ◌<◌, ◌≤◌, zero, suc, List, [], ◌∷◌, ◌++◌, inl, inr, length, get_or, refl, sym, subst, ap, ◌∙◌, arith}
use Rattle.std.specs.Prelude.{◌+◌, Bool, true, false, cond, not, ◌&&◌, ◌||◌, is_some, is_none, All, map, slice_get, slice_set, Option, Some, None, option_map, Result, Ok}
use Rattle.std.proofs.lemmas.Bool.{cases_lt, or_parts, false≢true}
use Rattle.std.proofs.lemmas.Option.{none-some, same_Some, slice_get-get_or}
use Rattle.std.proofs.lemmas.List.{length-append, length-set, append-nil, get_or_past}
use Rattle.std.proofs.lemmas.List.Elements.{All-nil, All-cons, All-push, All-append, All-set, All-get_or}
use Rattle.tm_laid.specs.tm_terms.declared.places.Place.{Place}
use Rattle.tm_laid.specs.tm_terms.declared.tokens.Name.{Name}
use Rattle.tm_laid.specs.tm_terms.declared.refusals.Kind.TheVariants as Kinds
use Rattle.tm_laid.specs.tm_terms.declared.refusals.Refusal.{Refusal}
use Rattle.tm_laid.specs.tm_terms.declared.types_named.Storage.{Storage}
use Rattle.tm_laid.specs.tm_terms.declared.types_named.Storage.TheVariants as Storages
use Rattle.tm_laid.specs.tm_terms.ExprTrees.{Tree}
use Rattle.tm_laid.specs.tm_trees.declared.declarations.Tag.{Tag}
use Rattle.tm_laid.specs.tm_trees.DeclarationTrees.{declared_name, DeclarationTree, ValueTree, an_expression, a_list}
use Rattle.tm_laid.specs.tm_trees.DeclarationTrees.{ValueTrees, no_values, and_value, InitialiserTree}
use Rattle.tm_laid.specs.tm_trees.DeclarationTrees.{InitDeclaratorTree}
use Rattle.tm_laid.specs.tm_typed.declared.types.CType.{CType}
use Rattle.tm_laid.specs.tm_typed.declared.types.CType.TheVariants as Types
use Rattle.tm_laid.specs.tm_typed.declared.types.Scalar.{Scalar}
use Rattle.tm_laid.specs.tm_typed.declared.types.Scalar.TheVariants as Scalars
use Rattle.tm_laid.specs.tm_typed.declared.operands.Sort.{Sort}
use Rattle.tm_laid.specs.tm_typed.declared.operands.Sort.TheVariants as Sorts
use Rattle.tm_laid.specs.tm_typed.declared.scopes.Binding.{Binding}
use Rattle.tm_laid.specs.tm_typed.declared.scopes.Named.{Named}
use Rattle.tm_laid.specs.tm_typed.declared.scopes.Named.TheVariants as Names
use Rattle.tm_laid.specs.tm_typed.declared.scopes.ObjectNumber.{ObjectNumber}
use Rattle.tm_laid.specs.tm_typed.declared.scopes.ObjectNumber.TheVariants as Objects
use Rattle.tm_laid.specs.tm_typed.declared.scopes.Part.{Part}
use Rattle.tm_laid.specs.tm_typed.declared.scopes.Tagged.{Tagged}
use Rattle.tm_laid.specs.tm_typed.declared.scopes.Tagged.TheVariants as Tagging
use Rattle.tm_laid.specs.tm_typed.declared.files.LocalEntry.{LocalEntry}
use Rattle.tm_laid.specs.tm_typed.declared.specifiers.Said.{Said}
use Rattle.tm_laid.specs.tm_typed.Scopes.{Scope, entry, ctype_of, last_declared, named, named_here, tagged_here}
use Rattle.tm_laid.specs.tm_typed.Scopes.{is_complete}
use Rattle.tm_laid.specs.tm_typed.TypeRows.{with_type}
use Rattle.tm_laid.specs.tm_typed.TypedTrees.{RvalueTree, Rated, OperandTree}
use Rattle.tm_laid.specs.tm_typed.Operands.{valued, is_structure, is_null, is_integer, scalar_by, scalar_of, is_taken}
use Rattle.tm_laid.specs.tm_typed.Operands.{as_pointer, integer_given, given_to, given}
use Rattle.tm_laid.specs.tm_typed.Refusals.{then_with, row, row_unless}
use Rattle.tm_laid.specs.tm_typed.States.{State, Static, no_static, static, static_type, in_scope}
use Rattle.tm_laid.specs.tm_typed.Evaluation.{typed_in}
use Rattle.tm_laid.specs.tm_typed.Specifiers.{base, with_struct_tag}
use Rattle.tm_laid.specs.tm_typed.Declarators.{declared}
use Rattle.tm_laid.specs.tm_typed.Structures.{declared_place, is_no_object, is_declared_here, specified}
use Rattle.tm_laid.specs.tm_typed.StaticValues.{static_value}
use Rattle.tm_laid.specs.tm_typed.TypedStatements.{GivenTree, LocalTree}
use Rattle.tm_laid.specs.tm_typed.Initialisers.{part, is_aggregate, scalar_rules, lone_rules, given_behind, lone}
use Rattle.tm_laid.specs.tm_typed.Initialisers.{list_rules, initial, initials, Given}
use Rattle.tm_laid.specs.tm_typed.TypeRows.{clipped}
use Rattle.tm_laid.specs.tm_typed.Declarations.{Declared, count_values, with_count, counted_by, counted, declared_by}
use Rattle.tm_laid.specs.tm_typed.Declarations.{bound_here, typedef_rules, static_cell_of, with_static}
use Rattle.tm_laid.specs.tm_typed.Declarations.{initialised_static, new_static, static_number, linked, with_linkage}
use Rattle.tm_laid.specs.tm_typed.Declarations.{clashes, is_other, bound_unless, redeclared, linked_object, file_object}
use Rattle.tm_laid.specs.tm_typed.Declarations.{is_extern, is_typedef, file_rules, is_function, no_value, extern_value}
use Rattle.tm_laid.specs.tm_typed.Declarations.{extern_object, object_rules, static_object, LocalInitial}
use Rattle.tm_laid.specs.tm_typed.Declarations.{initialised_local, new_local, Locals, local_object, no_locals}
use Rattle.tm_laid.specs.tm_typed.Declarations.{local_rules, file_declared, local_declared, lone_tag, tag_rules}
use Rattle.tm_laid.specs.tm_typed.Declarations.{file_form, file_declaration, local_form, local_declaration}
use Rattle.tm_laid.specs.tm_typed.WellTyped.{OnAnswer, kind_of, kind_of_scalar, Context, IsRvalue, IsRated, IsOperand}
use Rattle.c_expr_typing.proofs.WellTypedRules.{converted_fits, as_pointer_fits, valued_fits}
use Rattle.typed_file_laws.specs.Tables.{IsType}
use Rattle.typed_file_laws.specs.Lawful.{object_type, context, IsBound, IsLinked, IsLawfulState}
use Rattle.typed_file_laws.specs.Bodies.{IsGivenCell, AreGivenBy, IsLocal}
use Rattle.typing_laws.proofs.Steps.{then_on, then_any}
use Rattle.typed_file_laws.proofs.RuleSteps.{on_row, OnSome, on_row_unless, some_any}
use Rattle.typed_file_laws.proofs.TableGrowth.{grow_none, type_stays}
use Rattle.typed_file_laws.proofs.TableRows.{type_follows, type_numbered}
use Rattle.typed_file_laws.proofs.TableStructures.{struct_tag_follows}
use Rattle.typed_file_laws.proofs.TypeShapes.{last_stands, some_map, base_type, said_stays, void_is_type}
use Rattle.typed_file_laws.proofs.StateSteps.{Keeps, all_bound, AreLinked, all_linked, all_uses, AreStatics, AreLocals, Continues, continues_none, continues_on, scope_continues, name_continues, lengths_noted, static_is_there, Evaluates, typed_continues}
use Rattle.typed_file_laws.proofs.SpecifierSteps.{since, since_state, Declares, declared_continues, object_parts, Says, specified_says}
use Rattle.typed_file_laws.proofs.Growing.{extends, given_stays, locals_stay_well}

-- ## An expression for an object

-- a value of the scalar that a cell of the type holds
abbrev IsFor : Context → ℕ → RvalueTree → Type 0
IsFor w n e = (s : Scalar) × (scalar_of w.scope n ≡ Some s) × IsRvalue w (kind_of_scalar s) e

integer_for : (w : Context) (n : ℕ) → (t : _) (v : Rated) (s : Sort) → ctype_of w.scope n ≡ Types.Int t → IsRvalue w (kind_of s) v.value → OnSome (IsFor w n) (integer_given t v s)
integer_for w n t v (Sorts.Integer from f) e h = (Scalars.Int t, ap (λ r. scalar_by (entry w.scope n) r) e, converted_fits w from t v h)
integer_for w n t v (Sorts.Pointer q) e h = tt
integer_for w n t v Sorts.Null e h = tt
integer_for w n t v (Sorts.Structure k) e h = tt
integer_for w n t v Sorts.Nothing e h = tt

chosen : {A : Type 0} (P : A → Type 0) (b : Bool) (a : A) → P a → OnSome P (cond b (Some a) None)
chosen P true a h = h
chosen P false a h = tt

for_type : (w : Context) (n : ℕ) (v : Rated) (t : CType) → ctype_of w.scope n ≡ t → IsRated w v → OnSome (IsFor w n) (given_to w.scope v t)
for_type w n v (Types.Int t) e h = integer_for w n t v v.sort e h.0
for_type w n v (Types.Pointer q) e h =
    chosen (IsFor w n) (is_taken w.scope q v.sort) (as_pointer v v.sort)
    (Scalars.Pointer (entry w.scope n).class, ap (λ r. scalar_by (entry w.scope n) r) e, as_pointer_fits w v v.sort h.0)
for_type w n v Types.Void e h = tt
for_type w n v (Types.Array f k) e h = tt
for_type w n v (Types.Struct k) e h = tt

pub given_for : (w : Context) (n : ℕ) (v : Rated) → IsRated w v → OnSome (IsFor w n) (given w.scope v n)
given_for w n v h = for_type w n v (ctype_of w.scope n) refl h

-- ## Initialisers

-- the state behind an initialiser follows, and its cells are given values of their scalars
abbrev pub Gives : ℕ → State → Given → Type 0
Gives m s a = Continues m s a.1 × All (IsGivenCell (context m a.1)) a.0

pub evaluated_on : {B : Type 0} (m : ℕ) (s : State) (t : Tree) (Q : B → Type 0) (k : OperandTree × State → Result B Refusal) → IsLawfulState m s
    → ((a : OperandTree × State) → Continues m s a.1 → IsOperand (context m a.1) a.0 → OnAnswer Q (k a)) → OnAnswer Q (then_with (typed_in s t) k)
evaluated_on m s t Q k h f = then_on (Evaluates m s) Q (typed_in s t) k (typed_continues m s t h) (λ a e. f a e.0 e.1)

scalar_gives : (m : ℕ) (static : Bool) (s : State) (n c : ℕ) (v : Rated) → IsLawfulState m s → IsRated (context m s) v → OnAnswer (Gives m s) (scalar_rules static s n c v)
scalar_gives m static s n c v h r =
    on_row (Gives m s) (is_structure v.sort) Kinds.Unsupported v.place _ (λ a.
    by_scalar (scalar_of s.scope n) refl)
  where
    by_scalar : (o : Option Scalar) → scalar_of s.scope n ≡ o → OnAnswer (Gives m s) (row_unless o Kinds.Mismatch v.place (λ t.
        row_unless (given s.scope v n) Kinds.Mismatch v.place (λ e.
        row (static && is_none (static_value s e)) Kinds.NotConstant v.place
        (Ok (record { cell = c; scalar = t; value = e } ∷ [], s)))))
    by_scalar None e = tt
    by_scalar (Some t) e =
        on_row_unless (IsFor (context m s) n) (Gives m s) (given s.scope v n) Kinds.Mismatch v.place _ (given_for (context m s) n v r) (λ x f.
        on_row (Gives m s) (static && is_none (static_value s x)) Kinds.NotConstant v.place _ (λ b. (
          continues_none m s h,
          (let g : GivenTree = record { cell = c; scalar = t; value = x } in
              let P : Scalar → Type 0 = λ u. IsRvalue (context m s) (kind_of_scalar u) x in
              All-cons (IsGivenCell (context m s)) g [] (subst P (same_Some f.0 t (sym f.1 ∙ e)) f.2) (All-nil (IsGivenCell (context m s)))),
        )))

lone_by : (m : ℕ) (static : Bool) (s : State) (n c : ℕ) (v : Rated) (b : Bool) → IsLawfulState m s → IsRated (context m s) v → OnAnswer (Gives m s) (cond b (Ok ([], s)) (scalar_rules static s n c v))
lone_by m static s n c v true h r = (continues_none m s h, All-nil (IsGivenCell (context m s)))
lone_by m static s n c v false h r = scalar_gives m static s n c v h r

lone_gives : (m : ℕ) (static : Bool) (s : State) (n c : ℕ) (v : Rated) → IsLawfulState m s → IsRated (context m s) v → OnAnswer (Gives m s) (lone_rules static s n c v)
lone_gives m static s n c v h r = lone_by m static s n c v (is_integer v.sort && is_null v.sort) h r

gives_since : (m : ℕ) (s t : State) (r : Result Given Refusal) → Continues m s t → OnAnswer (Gives m t) r → OnAnswer (Gives m s) r
gives_since m s t r c h = since m s t (λ (a : Given). a.1) (λ a. All (IsGivenCell (context m a.1)) a.0) r c h

aggregate_by : (m : ℕ) (static : Bool) (s : State) (n c : ℕ) (t : Tree) (further : Result Given Refusal) (b : Bool) → IsLawfulState m s → OnAnswer (Gives m s) further
    → OnAnswer (Gives m s) (cond b (then_with (typed_in s t) (λ o. lone_rules static o.1 n c (valued o.1.scope o.0))) further)
aggregate_by m static s n c t further true h k =
    evaluated_on m s t (Gives m s) _ h (λ o d i. gives_since m s o.1 (lone_rules static o.1 n c (valued o.1.scope o.0)) d
    (lone_gives m static o.1 n c (valued o.1.scope o.0) d.lawful (valued_fits (context m o.1) o.0 i)))
aggregate_by m static s n c t further false h k = k

list_gives : (m : ℕ) (static : Bool) (s : State) (n c : ℕ) (p : Place) (q : Option Part) (t : Option Tree) (further : Result Given Refusal) → IsLawfulState m s
    → OnAnswer (Gives m s) further → OnAnswer (Gives m s) (list_rules static s n c p q t further)
list_gives m static s n c p (Some q) (Some t) further h k = aggregate_by m static s q.of.number c t further (is_aggregate s.scope q.of.number) h k
list_gives m static s n c p (Some q) None further h k = on_row (Gives m s) (not (is_aggregate s.scope n)) Kinds.Mismatch p further (λ a. k)
list_gives m static s n c p None t further h k = on_row (Gives m s) (not (is_aggregate s.scope n)) Kinds.Mismatch p further (λ a. k)

behind_gives : (m : ℕ) (s t : State) (cells : List GivenTree) (r : Result Given Refusal) → Continues m s t → All (IsGivenCell (context m t)) cells
    → OnAnswer (Gives m t) r → OnAnswer (Gives m s) (given_behind cells r)
behind_gives m s t cells r c h k =
    then_on (Gives m t) (Gives m s) r (λ g. Ok (cells ++ g.0, g.1)) k (λ g i. (
      continues_on m s t g.1 c i.0,
      All-append (IsGivenCell (context m g.1)) cells g.0 (given_stays (context m t) (context m g.1) (extends m t g.1 c.lawful i.0) cells h) i.1,
    ))

mutual
  pub initial_gives : (m : ℕ) (static : Bool) (s : State) (n c : ℕ) (v : ValueTree) → IsLawfulState m s → OnAnswer (Gives m s) (initial static s n c v)
  initial_gives m static s n c (an_expression t) h =
      evaluated_on m s t (Gives m s) _ h (λ o d i. gives_since m s o.1 (scalar_rules static o.1 n c (valued o.1.scope o.0)) d
      (scalar_gives m static o.1 n c (valued o.1.scope o.0) d.lawful (valued_fits (context m o.1) o.0 i)))
  initial_gives m static s n c (a_list values p) h =
      list_gives m static s n c p (part s.scope n 0) (lone values) (initials static s n c 0 values p) h (initials_give m static s n c 0 values p h)

  pub initials_give : (m : ℕ) (static : Bool) (s : State) (n c i : ℕ) (values : ValueTrees) (p : Place) → IsLawfulState m s → OnAnswer (Gives m s) (initials static s n c i values p)
  initials_give m static s n c i no_values p h = (continues_none m s h, All-nil (IsGivenCell (context m s)))
  initials_give m static s n c i (and_value v values) p h =
      on_row_unless (λ (q : Part). Unit {0}) (Gives m s) (part s.scope n i) Kinds.Mismatch p _ (some_any (part s.scope n i)) (λ q u.
      then_on (Gives m s) (Gives m s) (initial static s q.of.number (clipped (c + q.cell)) v) (λ g. given_behind g.0 (initials static g.1 n c (suc i) values p))
      (initial_gives m static s q.of.number (clipped (c + q.cell)) v h)
      (λ g k. behind_gives m s g.1 g.0 (initials static g.1 n c (suc i) values p) k.0 k.1 (initials_give m static g.1 n c (suc i) values p k.0.lawful)))

-- ## What declarators declare

-- where nothing is amiss, the state follows, and the type is in the table
abbrev pub DeclaresName : ℕ → State → Declared × State → Type 0
DeclaresName m s a = Declares m s (a.0.shape, a.1)

counted_declares : (m : ℕ) (s t : State) (d : Declared) (n : ℕ) (b : Bool) → d.shape.is_open ≡ b → DeclaresName m s (d, t) → DeclaresName m s (cond b (with_count t d n) (d, t))
counted_declares m s t d n true e h = λ a.
    let g = h a in
    let c : CType = Types.Array d.shape.of.number n in
    let w : Scope = with_type t.scope c in
    let known : is_complete t.scope d.shape.of.number ≡ true = g.2 e in
    let f : Continues m t (in_scope t w) = scope_continues m t w g.0.lawful (type_follows t.scope c g.0.lawful.tables known) in (
      continues_on m s t (with_count t d n).1 g.0 (continues_on m t (in_scope t w) (with_count t d n).1 f (lengths_noted m (in_scope t w) (t.lengths ++ n ∷ []) f.lawful)),
      type_numbered t.scope c g.0.lawful.tables known,
      λ x. absurd (false≢true x),
    )
counted_declares m s t d n false e h = h

counted_by_declares : (m : ℕ) (s t : State) (d : Declared) (v : ValueTree) → DeclaresName m s (d, t) → DeclaresName m s (counted_by t d v)
counted_by_declares m s t d (an_expression x) h = h
counted_by_declares m s t d (a_list vs p) h = counted_declares m s t d (count_values vs) d.shape.is_open refl h

all_counted_declares : (m : ℕ) (s t : State) (d : Declared) (i : Option InitialiserTree) → DeclaresName m s (d, t) → DeclaresName m s (counted t d i)
all_counted_declares m s t d None h = h
all_counted_declares m s t d (Some i) h = counted_by_declares m s t d i.value h

pub declared_by_declares : (m : ℕ) (s : State) (said : Said) (d : InitDeclaratorTree) → Says m s (said, s) → OnAnswer (DeclaresName m s) (declared_by s said d)
declared_by_declares m s said d h =
    then_on (Declares m s) (DeclaresName m s) (declared s (base said) d.declarator) _
    (declared_continues m s (base said) d.declarator h.0.lawful (base_type s.scope h.0.lawful.tables said h.1))
    (λ a g. all_counted_declares m s a.1 (record { name = declared_name d.declarator; place = declared_place d.declarator; shape = a.0; initialiser = d.initialiser }) d.initialiser g)

pub typedef_continues : (m : ℕ) (s t : State) (d : Declared) → DeclaresName m s (d, t) → OnAnswer (Continues m s) (typedef_rules t d)
typedef_continues m s t d h =
    on_row (Continues m s) d.shape.left_out Kinds.Unsupported d.place _ (λ a.
    on_row (Continues m s) (is_declared_here t d.name) Kinds.Redeclared d.place _ (λ b.
    on_row (Continues m s) (d.shape.mismatch || d.shape.is_open || is_some d.initialiser) Kinds.Mismatch d.place (Ok (bound_here t d (Names.Alias d.shape.of))) (λ e.
    let f = or_parts (d.shape.mismatch || d.shape.is_open) (is_some d.initialiser) e in
    let g = h (or_parts d.shape.mismatch d.shape.is_open f.0).0 in
    continues_on m s t (bound_here t d (Names.Alias d.shape.of)) g.0 (name_continues m t d.name (Names.Alias d.shape.of) g.0.lawful g.1))))

-- ## Objects

abbrev number_of_static : Static → ℕ
number_of_static o = o.of.number

abbrev number_of_local : LocalEntry → ℕ
number_of_local o = o.of.number

got_more : {A : Type 0} (f : A → ℕ) (xs ys : List A) (k n : ℕ) → option_map f (slice_get xs k) ≡ Some n → option_map f (slice_get (xs ++ ys) k) ≡ Some n
got_more f [] ys k n e = absurd (none-some n e)
got_more f (x ∷ xs) ys zero n e = e
got_more f (x ∷ xs) ys (suc k) n e = got_more f xs ys k n e

got_last : {A : Type 0} (f : A → ℕ) (xs : List A) (x : A) → option_map f (slice_get (xs ++ x ∷ []) (length xs)) ≡ Some (f x)
got_last f [] x = refl
got_last f (y ∷ xs) x = got_last f xs x

got_set : (xs : List Static) (k : ℕ) (new : Static) (j n : ℕ) → new.of.number ≡ (get_or xs k no_static).of.number
    → option_map number_of_static (slice_get xs j) ≡ Some n → option_map number_of_static (slice_get (slice_set xs k new) j) ≡ Some n
got_set [] k new j n e h = absurd (none-some n h)
got_set (x ∷ xs) zero new zero n e h = ap Some e ∙ h
got_set (x ∷ xs) zero new (suc j) n e h = h
got_set (x ∷ xs) (suc k) new zero n e h = h
got_set (x ∷ xs) (suc k) new (suc j) n e h = got_set xs k new j n e h

-- the state with other objects
abbrev objects_kept : (m : ℕ) (s : State) (statics : List Static) (locals : List LocalEntry) → Type 0
objects_kept m s statics locals = (o : ObjectNumber) (n : ℕ) → object_type s.statics s.locals o ≡ Some n → object_type statics locals o ≡ Some n

objects_continue : (m : ℕ) (s : State) (statics : List Static) (declared : List LocalEntry) (linkage : List Binding) → IsLawfulState m s
    → length s.statics ≤ length statics → objects_kept m s statics (s.locals ++ declared) → AreStatics s.scope statics → AreLocals s.scope declared
    → AreLinked (record s { statics = statics; locals = s.locals ++ declared; linkage = linkage }) linkage
    → Continues m s (record s { statics = statics; locals = s.locals ++ declared; linkage = linkage })
objects_continue m s statics declared linkage h more kept ss ls bs =
    let t : State = record s { statics = statics; locals = s.locals ++ declared; linkage = linkage } in
    let k : Keeps s t = record { grown = grow_none s.scope; functions = omega arith; objects = kept; statics = more } in record {
      lawful = record {
        tables = h.tables;
        names = all_bound m s t k s.scope.names h.names;
        linkage = bs;
        functions = h.functions;
        statics = ss;
        locals = All-append (λ (o : LocalEntry). IsType s.scope o.of.number) s.locals declared h.locals ls;
        uses = all_uses s t k s.uses h.uses;
        constants = h.constants;
        labels = h.labels;
      };
      keeps = k;
      added = [];
      names = sym (append-nil s.scope.names);
      outer = refl;
      functions = refl;
      declared = declared;
      locals = refl;
    }

-- the same with the same local objects
statics_continue : (m : ℕ) (s : State) (statics : List Static) (linkage : List Binding) → IsLawfulState m s
    → length s.statics ≤ length statics → objects_kept m s statics s.locals → AreStatics s.scope statics
    → AreLinked (record s { statics = statics; linkage = linkage }) linkage → Continues m s (record s { statics = statics; linkage = linkage })
statics_continue m s statics linkage h more kept ss bs =
    let t : State = record s { statics = statics; linkage = linkage } in
    let k : Keeps s t = record { grown = grow_none s.scope; functions = omega arith; objects = kept; statics = more } in record {
      lawful = record {
        tables = h.tables;
        names = all_bound m s t k s.scope.names h.names;
        linkage = bs;
        functions = h.functions;
        statics = ss;
        locals = h.locals;
        uses = all_uses s t k s.uses h.uses;
        constants = h.constants;
        labels = h.labels;
      };
      keeps = k;
      added = [];
      names = sym (append-nil s.scope.names);
      outer = refl;
      functions = refl;
      declared = [];
      locals = sym (append-nil s.locals);
    }

kept_by_statics : (m : ℕ) (s : State) (statics : List Static)
    → ((k n : ℕ) → option_map number_of_static (slice_get s.statics k) ≡ Some n → option_map number_of_static (slice_get statics k) ≡ Some n) → objects_kept m s statics s.locals
kept_by_statics m s statics f (Objects.Static k) n e = f k n e
kept_by_statics m s statics f (Objects.Local k) n e = e

-- a further object of static storage
added_continues : (m : ℕ) (s : State) (o : Static) → IsLawfulState m s → IsType s.scope o.of.number → Continues m s (record s { statics = s.statics ++ o ∷ [] })
added_continues m s o h i =
    let statics : List Static = s.statics ++ o ∷ [] in
    let t : State = record s { statics = statics } in
    let kept : objects_kept m s statics s.locals = kept_by_statics m s statics (λ k n e. got_more number_of_static s.statics (o ∷ []) k n e) in
    let more : length s.statics ≤ length statics = (let e = length-append s.statics (o ∷ []) in omega (arith, e)) in
    statics_continue m s statics s.linkage h more kept (All-push (λ (o : Static). IsType s.scope o.of.number) s.statics o h.statics i)
    (all_linked s t (record { grown = grow_none s.scope; functions = omega arith; objects = kept; statics = more }) s.linkage h.linkage)

pub new_static_continues : (m : ℕ) (s : State) (d : Declared) (b : Bool) → IsLawfulState m s → IsType s.scope d.shape.of.number → Continues m s (new_static s d b)
new_static_continues m s d b h i = added_continues m s (record { name = d.name; place = d.place; of = d.shape.of; defined = b; initialised = is_some d.initialiser; given = [] }) h i

new_static_bound : (m : ℕ) (s : State) (d : Declared) (b : Bool) → IsBound m (new_static s d b) (Names.Object (Objects.Static (length s.statics)) d.shape.of)
new_static_bound m s d b = got_last number_of_static s.statics (record { name = d.name; place = d.place; of = d.shape.of; defined = b; initialised = is_some d.initialiser; given = [] })

-- an object keeps its type
set_continues : (m : ℕ) (s : State) (k : ℕ) (new : Static) → IsLawfulState m s → new.of.number ≡ (static s k).of.number → Continues m s (with_static s k new)
set_continues m s k new h e =
    let statics : List Static = slice_set s.statics k new in
    let t : State = record s { statics = statics } in
    let kept : objects_kept m s statics s.locals = kept_by_statics m s statics (λ j n f. got_set s.statics k new j n e f) in
    let more : length s.statics ≤ length statics = (let l = length-set s.statics k new in omega (arith, l)) in
    statics_continue m s statics s.linkage h more kept
    (All-set (λ (o : Static). IsType s.scope o.of.number) s.statics k new (let P : ℕ → Type 0 = IsType s.scope in subst P (sym e) (static_type_there m s k h)) h.statics)
    (all_linked s t (record { grown = grow_none s.scope; functions = omega arith; objects = kept; statics = more }) s.linkage h.linkage)
  where
    static_type_there : (m : ℕ) (s : State) (k : ℕ) → IsLawfulState m s → IsType s.scope (static s k).of.number
    static_type_there m s k h = elim (cases_lt k (length s.statics)) [
      | inl l ↦ All-get_or (λ (o : Static). IsType s.scope o.of.number) s.statics k no_static l h.statics
      | inr past ↦ let P : Static → Type 0 = λ o. IsType s.scope o.of.number in subst P (sym (get_or_past s.statics k no_static past)) (void_is_type s.scope h.tables)
    ]

-- a name is linked with an object
linkage_continues : (m : ℕ) (s : State) (b : Binding) → IsLawfulState m s → IsLinked s b.named → Continues m s (record s { linkage = s.linkage ++ b ∷ [] })
linkage_continues m s b h i =
    let linkage : List Binding = s.linkage ++ b ∷ [] in
    let t : State = record s { linkage = linkage } in
    let kept : objects_kept m s s.statics s.locals = λ o n e. e in
    let k : Keeps s t = record { grown = grow_none s.scope; functions = omega arith; objects = kept; statics = omega arith } in
    statics_continue m s s.statics linkage h (omega arith) kept h.statics
    (all_linked s t k linkage (All-push (λ (b : Binding). IsLinked s b.named) s.linkage b h.linkage i))

-- a name names an object that there is
object_bound : (m : ℕ) (s : State) (k : ℕ) → k < length s.statics → IsBound m s (Names.Object (Objects.Static k) (static_type s k))
object_bound m s k l = ap (option_map number_of_static) (slice_get-get_or s.statics k no_static l)

unless_continues : (m : ℕ) (s : State) (d : Declared) (k : ℕ) (n : Option Named) → IsLawfulState m s → k < length s.statics → Continues m s (bound_unless s d k n)
unless_continues m s d k None h l = name_continues m s d.name (Names.Object (Objects.Static k) (static_type s k)) h (object_bound m s k l)
unless_continues m s d k (Some n) h l = continues_none m s h

number_there : (m : ℕ) (s : State) (n : Option Named) → OnSome (IsLinked s) n → OnSome (λ (k : ℕ). k < length s.statics) (static_number n)
number_there m s None h = tt
number_there m s (Some (Names.Object (Objects.Static k) q)) h = static_is_there m s k q h
number_there m s (Some (Names.Object (Objects.Local k) q)) h = tt
number_there m s (Some (Names.Function f)) h = tt
number_there m s (Some (Names.Alias q)) h = tt
number_there m s (Some Names.Task) h = tt
number_there m s (Some (Names.Mutex i)) h = tt
number_there m s (Some (Names.Enumerator z)) h = tt

linked_there : (m : ℕ) (s : State) (n : Name) → IsLawfulState m s → OnSome (λ (k : ℕ). k < length s.statics) (linked s n)
linked_there m s n h =
    number_there m s (option_map (λ b. b.named) (last_declared (λ b. b.name) n s.linkage))
    (some_map (IsLinked s) (λ (b : Binding). b.named) (last_declared (λ b. b.name) n s.linkage)
    (last_stands (λ (b : Binding). IsLinked s b.named) (λ (b : Binding). b.name) n s.linkage h.linkage))

abbrev Links : ℕ → State → ℕ × State → Type 0
Links m s a = Continues m s a.1

object_links : (m : ℕ) (s : State) (d : Declared) (b : Bool) (o : Option ℕ) → IsLawfulState m s → IsType s.scope d.shape.of.number
    → OnSome (λ (k : ℕ). k < length s.statics) o → Links m s (linked_object s d b o)
object_links m s d b (Some k) h i l =
    let t : State = redeclared s d b k in
    let c : Continues m s t = set_continues m s k (record (static s k) { defined = (static s k).defined || b; initialised = (static s k).initialised || is_some d.initialiser }) h refl in
    continues_on m s t (bound_unless t d k (named_here s.scope d.name)) c
    (unless_continues m t d k (named_here s.scope d.name) c.lawful (let e = c.keeps.statics in omega (arith, l, e)))
object_links m s d b None h i l =
    let k : ℕ = length s.statics in
    let t : State = new_static s d b in
    let u : State = with_linkage t d k in
    let c : Continues m s t = new_static_continues m s d b h i in
    let e : Continues m t u = linkage_continues m t (record { name = d.name; named = Names.Object (Objects.Static k) d.shape.of }) c.lawful (new_static_bound m s d b) in
    let there : k < length u.statics = (let e = length-append s.statics (record { name = d.name; place = d.place; of = d.shape.of; defined = b; initialised = is_some d.initialiser; given = [] } ∷ []) in omega (arith, e)) in
    continues_on m s u (bound_unless u d k (named_here s.scope d.name)) (continues_on m s t u c e)
    (unless_continues m u d k (named_here s.scope d.name) e.lawful there)

static_initialised : (m : ℕ) (s : State) (k : ℕ) (i : Option InitialiserTree) → IsLawfulState m s → OnAnswer (Continues m s) (initialised_static s k i)
static_initialised m s k None h = continues_none m s h
static_initialised m s k (Some i) h =
    then_on (Gives m s) (Continues m s) (initial true s (static_type s k).number 0 i.value) _ (initial_gives m true s (static_type s k).number 0 i.value h)
    (λ g c. continues_on m s g.1 (with_static g.1 k (record (static g.1 k) { given = map (static_cell_of g.1) g.0 })) c.0
    (set_continues m g.1 k (record (static g.1 k) { given = map (static_cell_of g.1) g.0 }) c.0.lawful refl))

pub file_object_continues : (m : ℕ) (s t : State) (b : Bool) (d : Declared) → DeclaresName m s (d, t) → OnAnswer (Continues m s) (file_object t b d)
file_object_continues m s t b d h =
    on_row (Continues m s) d.shape.left_out Kinds.Unsupported d.place _ (λ x.
    on_row (Continues m s) (is_other (named_here t.scope d.name) (linked t d.name) || clashes t d (linked t d.name)) Kinds.Redeclared d.place _ (λ y.
    on_row (Continues m s) (is_no_object t.scope d.shape) Kinds.Mismatch d.place _ (λ z.
    let g = h (object_parts t.scope d.shape z).0 in
    let o : ℕ × State = linked_object t d (not b) (linked t d.name) in
    let l : Continues m t o.1 = object_links m t d (not b) (linked t d.name) g.0.lawful g.1 (linked_there m t d.name g.0.lawful) in
    since_state m s o.1 (initialised_static o.1 o.0 d.initialiser) (continues_on m s t o.1 g.0 l) (static_initialised m o.1 o.0 d.initialiser l.lawful))))

file_by : (m : ℕ) (s t : State) (storage : Option Storage) (d : Declared) (b : Bool) → DeclaresName m s (d, t)
    → OnAnswer (Continues m s) (cond b (typedef_rules t d) (file_object t (is_extern storage && not (is_some d.initialiser)) d))
file_by m s t storage d true h = typedef_continues m s t d h
file_by m s t storage d false h = file_object_continues m s t (is_extern storage && not (is_some d.initialiser)) d h

pub file_rules_continue : (m : ℕ) (s t : State) (storage : Option Storage) (d : Declared) → DeclaresName m s (d, t) → OnAnswer (Continues m s) (file_rules t storage d)
file_rules_continue m s t storage d h = file_by m s t storage d (is_typedef storage) h

-- ## Objects in blocks

no_value_continues : (m : ℕ) (s : State) (v : ValueTree) → OnAnswer (Continues m s) (no_value s v)
no_value_continues m s (an_expression t) = then_any (Continues m s) (typed_in s t) _ (λ o. tt)
no_value_continues m s (a_list vs p) = tt

extern_value_continues : (m : ℕ) (s : State) (i : Option InitialiserTree) → IsLawfulState m s → OnAnswer (Continues m s) (extern_value s i)
extern_value_continues m s None h = continues_none m s h
extern_value_continues m s (Some i) h = no_value_continues m s i.value

extern_continues : (m : ℕ) (s t : State) (d : Declared) → DeclaresName m s (d, t) → OnAnswer (Continues m s) (extern_object t d)
extern_continues m s t d h =
    on_row (Continues m s) d.shape.left_out Kinds.Unsupported d.place _ (λ x.
    on_row (Continues m s) (is_other (named_here t.scope d.name) (linked t d.name) || is_function (named t.scope d.name) || clashes t d (linked t d.name)) Kinds.Redeclared d.place _ (λ y.
    on_row (Continues m s) (is_no_object t.scope d.shape) Kinds.Mismatch d.place _ (λ z.
    let g = h (object_parts t.scope d.shape z).0 in
    then_on (Continues m t) (Continues m s) (extern_value t d.initialiser) _ (extern_value_continues m t d.initialiser g.0.lawful) (λ u c.
    let a : ℕ × State = linked_object u d false (linked u d.name) in
    let l : Continues m u a.1 = object_links m u d false (linked u d.name) c.lawful (type_stays t.scope u.scope c.keeps.grown d.shape.of.number g.1) (linked_there m u d.name c.lawful) in
    continues_on m s t a.1 g.0 (continues_on m t u a.1 c l)))))

-- an object without linkage
object_rules_on : {A : Type 0} (m : ℕ) (s t : State) (d : Declared) (Q : A → Type 0) (further : Result A Refusal) → DeclaresName m s (d, t)
    → (Continues m s t → IsType t.scope d.shape.of.number → OnAnswer Q further) → OnAnswer Q (object_rules t d further)
object_rules_on m s t d Q further h f =
    on_row Q d.shape.left_out Kinds.Unsupported d.place _ (λ x.
    on_row Q (is_declared_here t d.name) Kinds.Redeclared d.place _ (λ y.
    on_row Q (is_no_object t.scope d.shape) Kinds.Mismatch d.place further (λ z. let g = h (object_parts t.scope d.shape z).0 in f g.0 g.1)))

static_continues : (m : ℕ) (s t : State) (d : Declared) → DeclaresName m s (d, t) → OnAnswer (Continues m s) (static_object t d)
static_continues m s t d h =
    let k : ℕ = length t.statics in
    let u : State = new_static t d true in
    let x : State = bound_here u d (Names.Object (Objects.Static k) d.shape.of) in
    object_rules_on m s t d (Continues m s) (initialised_static x k d.initialiser) h (λ c i.
    let e : Continues m t u = new_static_continues m t d true c.lawful i in
    let f : Continues m u x = name_continues m u d.name (Names.Object (Objects.Static k) d.shape.of) e.lawful (new_static_bound m t d true) in
    since_state m s x (initialised_static x k d.initialiser) (continues_on m s t x c (continues_on m t u x e f)) (static_initialised m x k d.initialiser f.lawful))

abbrev entry_of_local : Declared → LocalEntry
entry_of_local d = record { name = d.name; place = d.place; of = d.shape.of }

kept_by_locals : (m : ℕ) (s : State) (declared : List LocalEntry) → objects_kept m s s.statics (s.locals ++ declared)
kept_by_locals m s declared (Objects.Static k) n e = e
kept_by_locals m s declared (Objects.Local k) n e = got_more number_of_local s.locals declared k n e

-- a further object of the body
pub local_added : (m : ℕ) (s : State) (o : LocalEntry) → IsLawfulState m s → IsType s.scope o.of.number → Continues m s (record s { locals = s.locals ++ o ∷ [] })
local_added m s o h i =
    let t : State = record s { locals = s.locals ++ o ∷ [] } in
    let kept : objects_kept m s s.statics (s.locals ++ o ∷ []) = kept_by_locals m s (o ∷ []) in
    objects_continue m s s.statics (o ∷ []) s.linkage h (omega arith) kept h.statics
    (All-cons (λ (o : LocalEntry). IsType s.scope o.of.number) o [] i (All-nil (λ (o : LocalEntry). IsType s.scope o.of.number)))
    (all_linked s t (record { grown = grow_none s.scope; functions = omega arith; objects = kept; statics = omega arith }) s.linkage h.linkage)

pub local_bound : (s : State) (o : LocalEntry) → object_type s.statics (s.locals ++ o ∷ []) (Objects.Local (length s.locals)) ≡ Some o.of.number
local_bound s o = got_last number_of_local s.locals o

new_local_continues : (m : ℕ) (s : State) (d : Declared) → IsLawfulState m s → IsType s.scope d.shape.of.number → Continues m s (new_local s d)
new_local_continues m s d h i =
    let o : LocalEntry = entry_of_local d in
    let t : State = record s { locals = s.locals ++ o ∷ [] } in
    let c : Continues m s t = local_added m s o h i in
    continues_on m s t (new_local s d) c (name_continues m t d.name (Names.Object (Objects.Local (length s.locals)) d.shape.of) c.lawful (local_bound s o))

-- the objects that are declared in a block are objects of the body, and are given values of their cells' types
abbrev pub Locates : ℕ → State → Locals → Type 0
Locates m s a = Continues m s a.1 × All (IsLocal (context m a.1)) a.0

abbrev GivesLocal : ℕ → State → LocalInitial → Type 0
GivesLocal m s a = Continues m s a.1 × AreGivenBy (context m a.1) a.0

local_initialised : (m : ℕ) (s : State) (n : ℕ) (i : Option InitialiserTree) → IsLawfulState m s → OnAnswer (GivesLocal m s) (initialised_local s n i)
local_initialised m s n None h = (continues_none m s h, tt)
local_initialised m s n (Some i) h = then_on (Gives m s) (GivesLocal m s) (initial false s n 0 i.value) _ (initial_gives m false s n 0 i.value h) (λ g c. c)

local_locates : (m : ℕ) (s t : State) (d : Declared) → DeclaresName m s (d, t) → OnAnswer (Locates m s) (local_object t d)
local_locates m s t d h =
    let u : State = new_local t d in
    object_rules_on m s t d (Locates m s) _ h (λ c i.
    let e : Continues m t u = new_local_continues m t d c.lawful i in
    then_on (GivesLocal m u) (Locates m s) (initialised_local u d.shape.of.number d.initialiser) _ (local_initialised m u d.shape.of.number d.initialiser e.lawful) (λ a g.
    let l : LocalTree = record { object = length t.locals; initialiser = a.0 } in (
      continues_on m s u a.1 (continues_on m s t u c e) g.0,
      All-cons (IsLocal (context m a.1)) l []
          (record { type = d.shape.of.number; object = g.0.keeps.objects (Objects.Local (length t.locals)) d.shape.of.number (local_bound t (entry_of_local d)); given = g.1 })
          (All-nil (IsLocal (context m a.1))),
    )))

none_located : (m : ℕ) (s : State) (r : Result State Refusal) → OnAnswer (Continues m s) r → OnAnswer (Locates m s) (then_with r no_locals)
none_located m s r h = then_on (Continues m s) (Locates m s) r no_locals h (λ t c. (c, All-nil (IsLocal (context m t))))

local_rules_locate : (m : ℕ) (s t : State) (storage : Option Storage) (d : Declared) → DeclaresName m s (d, t) → OnAnswer (Locates m s) (local_rules t storage d)
local_rules_locate m s t (Some Storages.Typedef) d h = none_located m s (typedef_rules t d) (typedef_continues m s t d h)
local_rules_locate m s t (Some Storages.Extern) d h = none_located m s (extern_object t d) (extern_continues m s t d h)
local_rules_locate m s t (Some Storages.Static) d h = none_located m s (static_object t d) (static_continues m s t d h)
local_rules_locate m s t (Some Storages.Register) d h = local_locates m s t d h
local_rules_locate m s t (Some Storages.Auto) d h = local_locates m s t d h
local_rules_locate m s t None d h = local_locates m s t d h

-- ## Declarations

says_later : (m : ℕ) (s t : State) (said : Said) → Says m s (said, s) → Continues m s t → Says m t (said, t)
says_later m s t said h c = (continues_none m t c.lawful, said_stays s.scope t.scope c.keeps.grown said h.1)

file_declared_continues : (m : ℕ) (s : State) (said : Said) (ds : List InitDeclaratorTree) → Says m s (said, s) → OnAnswer (Continues m s) (file_declared s said ds)
file_declared_continues m s said [] h = h.0
file_declared_continues m s said (d ∷ ds) h =
    then_on (DeclaresName m s) (Continues m s) (declared_by s said d) _ (declared_by_declares m s said d h) (λ a g.
    then_on (Continues m s) (Continues m s) (file_rules a.1 said.storage a.0) _ (file_rules_continue m s a.1 said.storage a.0 g) (λ t c.
    since_state m s t (file_declared t said ds) c (file_declared_continues m t said ds (says_later m s t said h c))))

local_declared_locates : (m : ℕ) (s : State) (said : Said) (found : List LocalTree) (ds : List InitDeclaratorTree) → Says m s (said, s) → All (IsLocal (context m s)) found
    → OnAnswer (Locates m s) (local_declared s said found ds)
local_declared_locates m s said found [] h k = (h.0, k)
local_declared_locates m s said found (d ∷ ds) h k =
    then_on (DeclaresName m s) (Locates m s) (declared_by s said d) _ (declared_by_declares m s said d h) (λ a g.
    then_on (Locates m s) (Locates m s) (local_rules a.1 said.storage a.0) _ (local_rules_locate m s a.1 said.storage a.0 g) (λ l c.
    since m s l.1 (λ (b : Locals). b.1) (λ b. All (IsLocal (context m b.1)) b.0) (local_declared l.1 said (found ++ l.0) ds) c.0
    (local_declared_locates m l.1 said (found ++ l.0) ds (says_later m s l.1 said h c.0)
    (All-append (IsLocal (context m l.1)) found l.0 (locals_stay_well (context m s) (context m l.1) (extends m s l.1 h.0.lawful c.0) found k) c.1))))

tag_rules_continue : (m : ℕ) (s : State) (t : Tag) (o : Option Tagged) → IsLawfulState m s → OnAnswer (Continues m s) (tag_rules s t o)
tag_rules_continue m s t None h = scope_continues m s (with_struct_tag t.name s.scope) h (struct_tag_follows s.scope t.name h.tables)
tag_rules_continue m s t (Some (Tagging.Structure k)) h = continues_none m s h
tag_rules_continue m s t (Some (Tagging.Enumeration z)) h = tt

file_form_continues : (m : ℕ) (s : State) (d : DeclarationTree) (t : Option Tag) → IsLawfulState m s → OnAnswer (Continues m s) (file_form s d t)
file_form_continues m s d (Some t) h = tag_rules_continue m s t (tagged_here s.scope t.name) h
file_form_continues m s d None h =
    then_on (Says m s) (Continues m s) (specified s d.specifiers) _ (specified_says m s d.specifiers h) (λ a g.
    since_state m s a.1 (file_declared a.1 a.0 d.declarators) g.0 (file_declared_continues m a.1 a.0 d.declarators (continues_none m a.1 g.0.lawful, g.1)))

pub file_declaration_continues : (m : ℕ) (s : State) (d : DeclarationTree) → IsLawfulState m s → OnAnswer (Continues m s) (file_declaration s d)
file_declaration_continues m s d h = file_form_continues m s d (lone_tag d.specifiers d.declarators) h

local_form_locates : (m : ℕ) (s : State) (d : DeclarationTree) (t : Option Tag) → IsLawfulState m s → OnAnswer (Locates m s) (local_form s d t)
local_form_locates m s d (Some t) h = none_located m s (tag_rules s t (tagged_here s.scope t.name)) (tag_rules_continue m s t (tagged_here s.scope t.name) h)
local_form_locates m s d None h =
    then_on (Says m s) (Locates m s) (specified s d.specifiers) _ (specified_says m s d.specifiers h) (λ a g.
    since m s a.1 (λ (b : Locals). b.1) (λ b. All (IsLocal (context m b.1)) b.0) (local_declared a.1 a.0 [] d.declarators) g.0
    (local_declared_locates m a.1 a.0 [] d.declarators (continues_none m a.1 g.0.lawful, g.1) (All-nil (IsLocal (context m a.1)))))

pub local_declaration_locates : (m : ℕ) (s : State) (d : DeclarationTree) → IsLawfulState m s → OnAnswer (Locates m s) (local_declaration s d)
local_declaration_locates m s d h = local_form_locates m s d (lone_tag d.specifiers d.declarators) h
