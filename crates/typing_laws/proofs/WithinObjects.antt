-- Functions that are named and used are declared: for initialisers and whole declarations.
use Rattle.std.proofs.Common.{◌≡◌, ℕ, ◌<◌, List, [], ◌∷◌, ◌++◌, length, map}
use Rattle.std.specs.Prelude.{suc, ◌+◌, Bool, true, false, cond, not, ◌&&◌, ◌||◌, All, is_some, is_none, slice_set, Option, Some, None, Result, Ok, Err}
use Rattle.tm_typed.specs.tm_terms.declared.places.Place.{Place}
use Rattle.tm_typed.specs.tm_terms.declared.refusals.Kind.TheVariants as Kinds
use Rattle.tm_typed.specs.tm_terms.declared.refusals.Refusal.{Refusal}
use Rattle.tm_typed.specs.tm_terms.declared.types_named.Storage.{Storage}
use Rattle.tm_typed.specs.tm_terms.declared.types_named.Storage.TheVariants as Storages
use Rattle.tm_typed.specs.tm_terms.ExprTrees.{Tree, place_of}
use Rattle.tm_typed.specs.tm_trees.declared.declarations.Tag.{Tag}
use Rattle.tm_typed.specs.tm_trees.DeclarationTrees.{declared_name, ValueTree, an_expression, a_list, ValueTrees}
use Rattle.tm_typed.specs.tm_trees.DeclarationTrees.{no_values, and_value, InitialiserTree, InitDeclaratorTree}
use Rattle.tm_typed.specs.tm_trees.DeclarationTrees.{DeclarationTree}
use Rattle.tm_typed.specs.declared.types.CType.TheVariants as Types
use Rattle.tm_typed.specs.declared.types.Scalar.{Scalar}
use Rattle.tm_typed.specs.declared.scopes.Named.{Named}
use Rattle.tm_typed.specs.declared.scopes.Named.TheVariants as Names
use Rattle.tm_typed.specs.declared.scopes.ObjectNumber.TheVariants as Objects
use Rattle.tm_typed.specs.declared.scopes.Part.{Part}
use Rattle.tm_typed.specs.declared.scopes.Tagged.{Tagged}
use Rattle.tm_typed.specs.declared.scopes.Tagged.TheVariants as Tagging
use Rattle.tm_typed.specs.declared.specifiers.Said.{Said}
use Rattle.tm_typed.specs.Scopes.{named, named_here, tagged_here}
use Rattle.tm_typed.specs.States.{State, Static, static, static_type, in_scope}
use Rattle.tm_typed.specs.Evaluation.{typed_in}
use Rattle.tm_typed.specs.Refusals.{row, row_unless, then_with}
use Rattle.tm_typed.specs.TypedTrees.{RvalueTree, Rated}
use Rattle.tm_typed.specs.TypedStatements.{GivenTree, LocalTree, LocalInitialiserTree}
use Rattle.tm_typed.specs.Operands.{valued, is_structure, is_null, is_integer, scalar_of, given}
use Rattle.tm_typed.specs.TypeRows.{with_type, clipped}
use Rattle.tm_typed.specs.Specifiers.{base, with_struct_tag}
use Rattle.tm_typed.specs.Declarators.{declared}
use Rattle.tm_typed.specs.Structures.{declared_place, is_no_object, is_declared_here, specified}
use Rattle.tm_typed.specs.StaticValues.{static_value}
use Rattle.tm_typed.specs.Initialisers.{Given, part, is_aggregate, scalar_rules, lone_rules, given_behind, lone, list_rules, initial, initials}
use Rattle.tm_typed.specs.Declarations.{Declared, count_values, with_count, counted_by, counted, declared_by, bound_here, typedef_rules, static_cell_of, with_static, initialised_static, new_static, linked, with_linkage, clashes, is_other, bound_unless, redeclared, linked_object, file_object, is_extern, is_typedef, file_rules, is_function, no_value, extern_value, extern_object, object_rules, static_object, LocalInitial, initialised_local, new_local, Locals, local_object, no_locals, local_rules, file_declared, local_declared, lone_tag, tag_rules, file_form, file_declaration, local_form, local_declaration}
use Rattle.tm_typed.specs.WellTyped.{OnAnswer}
use Rattle.typing_laws.proofs.SameNames.{type_same, struct_tag_same}
use Rattle.typing_laws.proofs.Steps.{then_on, then_any}
use Rattle.typing_laws.proofs.WithinUses.{IsNamedBelow, IsWithin, Within, in_same_scope, typed_within}
use Rattle.typing_laws.proofs.WithinDeclarations.{row_on, row_unless_on, rows_on, named_within, declared_within, specified_within}

-- ## Initialisers

scalar_within : (n : ℕ) (static : Bool) (s : State) (m c : ℕ) (v : Rated) → IsWithin n s → OnAnswer (Within n) (scalar_rules static s m c v)
scalar_within n static s m c v h =
    let last : Scalar → RvalueTree → Result Given Refusal = λ t e. Ok (record { cell = c; scalar = t; value = e } ∷ [], s) in
    row_on (Within {A = List GivenTree} n) (is_structure v.sort) Kinds.Unsupported v.place
    (row_unless (scalar_of s.scope m) Kinds.Mismatch v.place (λ t. row_unless (given s.scope v m) Kinds.Mismatch v.place (λ e. row (static && is_none (static_value s e)) Kinds.NotConstant v.place (last t e))))
    (row_unless_on (Within {A = List GivenTree} n) (scalar_of s.scope m) Kinds.Mismatch v.place
    (λ t. row_unless (given s.scope v m) Kinds.Mismatch v.place (λ e. row (static && is_none (static_value s e)) Kinds.NotConstant v.place (last t e)))
    (λ t. row_unless_on (Within {A = List GivenTree} n) (given s.scope v m) Kinds.Mismatch v.place (λ e. row (static && is_none (static_value s e)) Kinds.NotConstant v.place (last t e))
    (λ e. row_on (Within {A = List GivenTree} n) (static && is_none (static_value s e)) Kinds.NotConstant v.place (last t e) h)))

on_cond : {A : Type 0} (P : A → Type 0) (b : Bool) (r r' : Result A Refusal) → OnAnswer P r → OnAnswer P r' → OnAnswer P (cond b r r')
on_cond P true r r' h k = h
on_cond P false r r' h k = k

lone_within : (n : ℕ) (static : Bool) (s : State) (m c : ℕ) (v : Rated) → IsWithin n s → OnAnswer (Within n) (lone_rules static s m c v)
lone_within n static s m c v h =
    on_cond (Within {A = List GivenTree} n) (is_integer v.sort && is_null v.sort) (Ok ([], s)) (scalar_rules static s m c v) h (scalar_within n static s m c v h)

list_within : (n : ℕ) (static : Bool) (s : State) (m c : ℕ) (p : Place) (first : Option Part) (t : Option Tree) (further : Result Given Refusal)
    → IsWithin n s → OnAnswer (Within n) further → OnAnswer (Within n) (list_rules static s m c p first t further)
list_within n static s m c p (Some q) (Some t) further h k =
    on_cond (Within {A = List GivenTree} n) (is_aggregate s.scope q.of.number) (then_with (typed_in s t) (λ o. lone_rules static o.1 q.of.number c (valued o.1.scope o.0))) further
    (then_on (Within n) (Within n) (typed_in s t) (λ o. lone_rules static o.1 q.of.number c (valued o.1.scope o.0)) (typed_within n s t h)
    (λ o j. lone_within n static o.1 q.of.number c (valued o.1.scope o.0) j)) k
list_within n static s m c p None None further h k = row_on (Within {A = List GivenTree} n) (not (is_aggregate s.scope m)) Kinds.Mismatch p further k
list_within n static s m c p None (Some t) further h k = row_on (Within {A = List GivenTree} n) (not (is_aggregate s.scope m)) Kinds.Mismatch p further k
list_within n static s m c p (Some q) None further h k = row_on (Within {A = List GivenTree} n) (not (is_aggregate s.scope m)) Kinds.Mismatch p further k

mutual
  pub initial_within : (n : ℕ) (static : Bool) (s : State) (m c : ℕ) (v : ValueTree) → IsWithin n s → OnAnswer (Within n) (initial static s m c v)
  initial_within n static s m c (an_expression t) h =
      then_on (Within n) (Within n) (typed_in s t) (λ o. scalar_rules static o.1 m c (valued o.1.scope o.0)) (typed_within n s t h) (λ o k. scalar_within n static o.1 m c (valued o.1.scope o.0) k)
  initial_within n static s m c (a_list values p) h =
      list_within n static s m c p (part s.scope m 0) (lone values) (initials static s m c 0 values p) h (initials_within n static s m c 0 values p h)

  initials_within : (n : ℕ) (static : Bool) (s : State) (m c i : ℕ) (values : ValueTrees) (p : Place) → IsWithin n s → OnAnswer (Within n) (initials static s m c i values p)
  initials_within n static s m c i no_values p h = h
  initials_within n static s m c i (and_value v values) p h =
      row_unless_on (Within {A = List GivenTree} n) (part s.scope m i) Kinds.Mismatch p
      (λ q. then_with (initial static s q.of.number (clipped (c + q.cell)) v) (λ g. given_behind g.0 (initials static g.1 m c (suc i) values p)))
      (λ q. then_on (Within n) (Within n) (initial static s q.of.number (clipped (c + q.cell)) v) (λ g. given_behind g.0 (initials static g.1 m c (suc i) values p))
      (initial_within n static s q.of.number (clipped (c + q.cell)) v h)
      (λ g k. then_on (Within n) (Within n) (initials static g.1 m c (suc i) values p) (λ f. Ok (g.0 ++ f.0, f.1)) (initials_within n static g.1 m c (suc i) values p k) (λ f j. j)))

-- ## What is declared

counted_by_within : (n : ℕ) (s : State) (d : Declared) (v : ValueTree) → IsWithin n s → IsWithin n (counted_by s d v).1
counted_by_within n s d (an_expression t) h = h
counted_by_within n s d (a_list vs p) h = by_open d.shape.is_open
  where
    by_open : (b : Bool) → IsWithin n (cond b (with_count s d (count_values vs)) (d, s)).1
    by_open false = h
    by_open true =
        let t = Types.Array d.shape.of.number (count_values vs) in
        let k = in_same_scope n s (with_type s.scope t) (type_same s.scope t) h in
        record { functions = k.functions; names = k.names; uses = k.uses }

counted_within : (n : ℕ) (s : State) (d : Declared) (i : Option InitialiserTree) → IsWithin n s → IsWithin n (counted s d i).1
counted_within n s d None h = h
counted_within n s d (Some i) h = counted_by_within n s d i.value h

declared_by_within : (n : ℕ) (s : State) (said : Said) (d : InitDeclaratorTree) → IsWithin n s → OnAnswer (Within n) (declared_by s said d)
declared_by_within n s said d h =
    then_on (Within n) (Within n) (declared s (base said) d.declarator) _ (declared_within n s (base said) d.declarator h) (λ m k.
    counted_within n m.1 (record { name = declared_name d.declarator; place = declared_place d.declarator; shape = m.0; initialiser = d.initialiser }) d.initialiser k)

typedef_within : (n : ℕ) (s : State) (d : Declared) → IsWithin n s → OnAnswer (IsWithin n) (typedef_rules s d)
typedef_within n s d h =
    rows_on (IsWithin n) d.shape.left_out (is_declared_here s d.name) (d.shape.mismatch || d.shape.is_open || is_some d.initialiser) Kinds.Unsupported Kinds.Redeclared Kinds.Mismatch d.place
    (Ok (bound_here s d (Names.Alias d.shape.of))) (named_within n s d.name (Names.Alias d.shape.of) tt h)

-- ## Objects of static storage

statics_within : (n : ℕ) (s : State) (k : ℕ) (new : Static) → IsWithin n s → IsWithin n (with_static s k new)
statics_within n s k new h = record { functions = h.functions; names = h.names; uses = h.uses }

initialised_within : (n : ℕ) (s : State) (k : ℕ) (i : Option InitialiserTree) → IsWithin n s → OnAnswer (IsWithin n) (initialised_static s k i)
initialised_within n s k None h = h
initialised_within n s k (Some i) h =
    then_on (Within n) (IsWithin n) (initial true s (static_type s k).number 0 i.value) _ (initial_within n true s (static_type s k).number 0 i.value h) (λ g j.
    statics_within n g.1 k (record (static g.1 k) { given = map (static_cell_of g.1) g.0 }) j)

bound_unless_within : (n : ℕ) (s : State) (d : Declared) (k : ℕ) (o : Option Named) → IsWithin n s → IsWithin n (bound_unless s d k o)
bound_unless_within n s d k None h = named_within n s d.name (Names.Object (Objects.Static k) (static_type s k)) tt h
bound_unless_within n s d k (Some x) h = h

linked_within : (n : ℕ) (s : State) (d : Declared) (defined : Bool) (o : Option ℕ) → IsWithin n s → IsWithin n (linked_object s d defined o).1
linked_within n s d defined (Some k) h =
    bound_unless_within n (redeclared s d defined k) d k (named_here s.scope d.name) (record { functions = h.functions; names = h.names; uses = h.uses })
linked_within n s d defined None h =
    bound_unless_within n (with_linkage (new_static s d defined) d (length s.statics)) d (length s.statics) (named_here s.scope d.name) (record { functions = h.functions; names = h.names; uses = h.uses })

file_object_within : (n : ℕ) (s : State) (bare : Bool) (d : Declared) → IsWithin n s → OnAnswer (IsWithin n) (file_object s bare d)
file_object_within n s bare d h =
    let o = linked_object s d (not bare) (linked s d.name) in
    rows_on (IsWithin n) d.shape.left_out (is_other (named_here s.scope d.name) (linked s d.name) || clashes s d (linked s d.name)) (is_no_object s.scope d.shape)
    Kinds.Unsupported Kinds.Redeclared Kinds.Mismatch d.place (initialised_static o.1 o.0 d.initialiser)
    (initialised_within n o.1 o.0 d.initialiser (linked_within n s d (not bare) (linked s d.name) h))

file_rules_within : (n : ℕ) (s : State) (storage : Option Storage) (d : Declared) → IsWithin n s → OnAnswer (IsWithin n) (file_rules s storage d)
file_rules_within n s storage d h =
    let bare = is_extern storage && not (is_some d.initialiser) in
    on_cond (IsWithin n) (is_typedef storage) (typedef_rules s d) (file_object s bare d) (typedef_within n s d h) (file_object_within n s bare d h)

-- ## Objects in blocks

no_value_within : (n : ℕ) (s : State) (v : ValueTree) → OnAnswer (IsWithin n) (no_value s v)
no_value_within n s (an_expression t) = then_any (IsWithin n) (typed_in s t) _ (λ o. tt)
no_value_within n s (a_list vs p) = tt

extern_value_within : (n : ℕ) (s : State) (i : Option InitialiserTree) → IsWithin n s → OnAnswer (IsWithin n) (extern_value s i)
extern_value_within n s None h = h
extern_value_within n s (Some i) h = no_value_within n s i.value

extern_within : (n : ℕ) (s : State) (d : Declared) → IsWithin n s → OnAnswer (IsWithin n) (extern_object s d)
extern_within n s d h =
    let last : State → Result State Refusal = λ t. Ok (linked_object t d false (linked t d.name)).1 in
    rows_on (IsWithin n) d.shape.left_out (is_other (named_here s.scope d.name) (linked s d.name) || is_function (named s.scope d.name) || clashes s d (linked s d.name)) (is_no_object s.scope d.shape)
    Kinds.Unsupported Kinds.Redeclared Kinds.Mismatch d.place (then_with (extern_value s d.initialiser) last)
    (then_on (IsWithin n) (IsWithin n) (extern_value s d.initialiser) last (extern_value_within n s d.initialiser h) (λ t k. linked_within n t d false (linked t d.name) k))

object_on : {A : Type 0} (P : A → Type 0) (s : State) (d : Declared) (further : Result A Refusal) → OnAnswer P further → OnAnswer P (object_rules s d further)
object_on P s d further h = rows_on P d.shape.left_out (is_declared_here s d.name) (is_no_object s.scope d.shape) Kinds.Unsupported Kinds.Redeclared Kinds.Mismatch d.place further h

static_within : (n : ℕ) (s : State) (d : Declared) → IsWithin n s → OnAnswer (IsWithin n) (static_object s d)
static_within n s d h =
    let k = length s.statics in
    let t = bound_here (new_static s d true) d (Names.Object (Objects.Static k) d.shape.of) in
    object_on (IsWithin n) s d (initialised_static t k d.initialiser)
    (initialised_within n t k d.initialiser (named_within n (new_static s d true) d.name (Names.Object (Objects.Static k) d.shape.of) tt (record { functions = h.functions; names = h.names; uses = h.uses })))

initialised_local_within : (n : ℕ) (s : State) (m : ℕ) (i : Option InitialiserTree) → IsWithin n s → OnAnswer (Within n) (initialised_local s m i)
initialised_local_within n s m None h = h
initialised_local_within n s m (Some i) h = then_on (Within n) (Within n) (initial false s m 0 i.value) _ (initial_within n false s m 0 i.value h) (λ g k. k)

new_local_within : (n : ℕ) (s : State) (d : Declared) → IsWithin n s → IsWithin n (new_local s d)
new_local_within n s d h =
    let more : State = record s { locals = s.locals ++ record { name = d.name; place = d.place; of = d.shape.of } ∷ [] } in
    named_within n more d.name (Names.Object (Objects.Local (length s.locals)) d.shape.of) tt (record { functions = h.functions; names = h.names; uses = h.uses })

local_within : (n : ℕ) (s : State) (d : Declared) → IsWithin n s → OnAnswer (Within n) (local_object s d)
local_within n s d h =
    let last : LocalInitial → Result Locals Refusal = λ i. Ok (record { object = length s.locals; initialiser = i.0 } ∷ [], i.1) in
    object_on (Within {A = List LocalTree} n) s d (then_with (initialised_local (new_local s d) d.shape.of.number d.initialiser) last)
    (then_on (Within n) (Within n) (initialised_local (new_local s d) d.shape.of.number d.initialiser) last (initialised_local_within n (new_local s d) d.shape.of.number d.initialiser (new_local_within n s d h)) (λ i k. k))

local_rules_within : (n : ℕ) (s : State) (storage : Option Storage) (d : Declared) → IsWithin n s → OnAnswer (Within n) (local_rules s storage d)
local_rules_within n s (Some Storages.Typedef) d h = then_on (IsWithin n) (Within n) (typedef_rules s d) no_locals (typedef_within n s d h) (λ t k. k)
local_rules_within n s (Some Storages.Extern) d h = then_on (IsWithin n) (Within n) (extern_object s d) no_locals (extern_within n s d h) (λ t k. k)
local_rules_within n s (Some Storages.Static) d h = then_on (IsWithin n) (Within n) (static_object s d) no_locals (static_within n s d h) (λ t k. k)
local_rules_within n s (Some Storages.Register) d h = local_within n s d h
local_rules_within n s (Some Storages.Auto) d h = local_within n s d h
local_rules_within n s None d h = local_within n s d h

-- ## Declarations

file_declared_within : (n : ℕ) (s : State) (said : Said) (ds : List InitDeclaratorTree) → IsWithin n s → OnAnswer (IsWithin n) (file_declared s said ds)
file_declared_within n s said [] h = h
file_declared_within n s said (d ∷ ds) h =
    then_on (Within n) (IsWithin n) (declared_by s said d) _ (declared_by_within n s said d h) (λ m k.
    then_on (IsWithin n) (IsWithin n) (file_rules m.1 said.storage m.0) _ (file_rules_within n m.1 said.storage m.0 k) (λ t j. file_declared_within n t said ds j))

local_declared_within : (n : ℕ) (s : State) (said : Said) (found : List LocalTree) (ds : List InitDeclaratorTree) → IsWithin n s → OnAnswer (Within n) (local_declared s said found ds)
local_declared_within n s said found [] h = h
local_declared_within n s said found (d ∷ ds) h =
    then_on (Within n) (Within n) (declared_by s said d) _ (declared_by_within n s said d h) (λ m k.
    then_on (Within n) (Within n) (local_rules m.1 said.storage m.0) _ (local_rules_within n m.1 said.storage m.0 k) (λ l j. local_declared_within n l.1 said (found ++ l.0) ds j))

tag_within : (n : ℕ) (s : State) (t : Tag) (o : Option Tagged) → IsWithin n s → OnAnswer (IsWithin n) (tag_rules s t o)
tag_within n s t None h = in_same_scope n s (with_struct_tag t.name s.scope) (struct_tag_same t.name s.scope) h
tag_within n s t (Some (Tagging.Structure k)) h = h
tag_within n s t (Some (Tagging.Enumeration z)) h = tt

file_form_within : (n : ℕ) (s : State) (d : DeclarationTree) (t : Option Tag) → IsWithin n s → OnAnswer (IsWithin n) (file_form s d t)
file_form_within n s d (Some t) h = tag_within n s t (tagged_here s.scope t.name) h
file_form_within n s d None h =
    then_on (Within n) (IsWithin n) (specified s d.specifiers) _ (specified_within n s d.specifiers h) (λ m k. file_declared_within n m.1 m.0 d.declarators k)

pub file_declaration_within : (n : ℕ) (s : State) (d : DeclarationTree) → IsWithin n s → OnAnswer (IsWithin n) (file_declaration s d)
file_declaration_within n s d h = file_form_within n s d (lone_tag d.specifiers d.declarators) h

local_form_within : (n : ℕ) (s : State) (d : DeclarationTree) (t : Option Tag) → IsWithin n s → OnAnswer (Within n) (local_form s d t)
local_form_within n s d (Some t) h = then_on (IsWithin n) (Within n) (tag_rules s t (tagged_here s.scope t.name)) no_locals (tag_within n s t (tagged_here s.scope t.name) h) (λ u k. k)
local_form_within n s d None h =
    then_on (Within n) (Within n) (specified s d.specifiers) _ (specified_within n s d.specifiers h) (λ m k. local_declared_within n m.1 m.0 [] d.declarators k)

pub local_declaration_within : (n : ℕ) (s : State) (d : DeclarationTree) → IsWithin n s → OnAnswer (Within n) (local_declaration s d)
local_declaration_within n s d h = local_form_within n s d (lone_tag d.specifiers d.declarators) h
