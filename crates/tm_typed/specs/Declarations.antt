-- Whole declarations (C99 6.7, 6.9.2): typedefs, and objects at file scope and in blocks.
use Rattle.std.specs.Prelude.{ℕ, suc, Bool, true, false, cond, ◌&&◌, ◌||◌, not, ◌==◌, is_some, List, [], ◌∷◌, ◌++◌}
use Rattle.std.specs.Prelude.{length, map, slice_set, Option, Some, None, option_map, Result, Ok}
use Rattle.tm_trees.specs.tm_terms.declared.places.Place.{Place}
use Rattle.tm_trees.specs.tm_terms.declared.tokens.Name.{Name}
use Rattle.tm_trees.specs.tm_terms.declared.refusals.Kind.TheVariants as Kinds
use Rattle.tm_trees.specs.tm_terms.declared.refusals.Refusal.{Refusal}
use Rattle.tm_trees.specs.tm_terms.declared.types_named.Storage.{Storage}
use Rattle.tm_trees.specs.tm_terms.declared.types_named.Storage.TheVariants as Storages
use Rattle.tm_trees.specs.tm_terms.Names.{is_same_name}
use Rattle.tm_trees.specs.tm_terms.ExprTrees.{place_of}
use Rattle.tm_trees.specs.DeclarationTrees.{declared_name, SpecifierTrees, no_specifiers, and_specifier, a_plain}
use Rattle.tm_trees.specs.DeclarationTrees.{DeclarationTree, ValueTree, an_expression, a_list, ValueTrees, no_values}
use Rattle.tm_trees.specs.DeclarationTrees.{and_value, InitialiserTree, InitDeclaratorTree}
use Rattle.tm_typed.specs.declared.types.Qualified.{Qualified}
use Rattle.tm_typed.specs.declared.types.CType.TheVariants as Types
use Rattle.tm_typed.specs.declared.scopes.Named.{Named}
use Rattle.tm_typed.specs.declared.scopes.Named.TheVariants as Names
use Rattle.tm_typed.specs.declared.scopes.ObjectNumber.TheVariants as Objects
use Rattle.tm_typed.specs.declared.scopes.Tagged.{Tagged}
use Rattle.tm_typed.specs.declared.scopes.Tagged.TheVariants as Tagging
use Rattle.tm_typed.specs.declared.files.StaticCell.{StaticCell}
use Rattle.tm_typed.specs.declared.files.StaticValue.{StaticValue}
use Rattle.tm_typed.specs.declared.files.StaticValue.TheVariants as StaticValues
use Rattle.tm_typed.specs.declared.specifiers.Said.{Said}
use Rattle.tm_typed.specs.declared.specifiers.Shape.{Shape}
use Rattle.tm_typed.specs.Scopes.{Scope, last_declared, named, named_here, tagged_here, is_same_type}
use Rattle.tm_typed.specs.TypeRows.{number_in, with_type, is_same_bool}
use Rattle.tm_typed.specs.TypedStatements.{GivenTree, LocalInitialiserTree, LocalTree}
use Rattle.tm_trees.specs.tm_terms.declared.types_named.SpecWord.{SpecWord}
use Rattle.tm_trees.specs.tm_terms.declared.types_named.SpecWord.TheVariants as Specs
use Rattle.tm_trees.specs.tm_terms.declared.types_named.TagKind.TheVariants as Tags
use Rattle.tm_trees.specs.declared.declarations.Tag.{Tag}
use Rattle.tm_typed.specs.States.{State, Static, static, static_type, with_name}
use Rattle.tm_typed.specs.Evaluation.{typed_in}
use Rattle.tm_typed.specs.Specifiers.{base, with_struct_tag}
use Rattle.tm_typed.specs.Declarators.{declared}
use Rattle.tm_typed.specs.Structures.{declared_place, is_no_object, is_declared_here, specified}
use Rattle.tm_typed.specs.StaticValues.{static_value}
use Rattle.tm_typed.specs.Initialisers.{initial}
use Rattle.tm_typed.specs.Refusals.{refused, then_with, row}

-- ## What is declared

-- a declared name, with its place, its type, and what follows its `=`
pub record Declared : Type 0 where
  pub name : Name
  pub place : Place
  pub shape : Shape
  pub initialiser : Option InitialiserTree

abbrev pub count_values : ValueTrees → ℕ
count_values no_values = 0
count_values (and_value v vs) = suc (count_values vs)

-- an array without a length has as many elements as the outermost braces have values (C99 6.7.8)
abbrev pub with_count : State → Declared → ℕ → Declared × State
with_count s d n = let t = Types.Array d.shape.of.number n in let scope = with_type s.scope t in (
  record d { shape = record d.shape { of = record d.shape.of { number = number_in scope t }; is_open = false } },
  record s { scope = scope; lengths = s.lengths ++ n ∷ [] },
)

abbrev pub counted_by : State → Declared → ValueTree → Declared × State
counted_by s d (an_expression t) = (d, s)
counted_by s d (a_list vs p) = cond d.shape.is_open (with_count s d (count_values vs)) (d, s)

abbrev pub counted : State → Declared → Option InitialiserTree → Declared × State
counted s d None = (d, s)
counted s d (Some i) = counted_by s d i.value

-- what a declarator declares
abbrev pub declared_by : State → Said → InitDeclaratorTree → Result (Declared × State) Refusal
declared_by s said d = then_with (declared s (base said) d.declarator) (λ m.
    Ok (counted m.1 (record {
      name = declared_name d.declarator;
      place = declared_place d.declarator;
      shape =
          m.0;
      initialiser = d.initialiser;
    }) d.initialiser))

abbrev pub bound_here : State → Declared → Named → State
bound_here s d n = record s { scope = with_name d.name n s.scope }

-- ## Typedefs (C99 6.7.7)

-- a typedef has one declaration and no value, and is of no array without a length
abbrev pub typedef_rules : State → Declared → Result State Refusal
typedef_rules s d =
    row d.shape.left_out Kinds.Unsupported d.place
    (row (is_declared_here s d.name) Kinds.Redeclared d.place
    (row (d.shape.mismatch || d.shape.is_open || is_some d.initialiser) Kinds.Mismatch d.place
    (Ok (bound_here s d (Names.Alias d.shape.of)))))

-- ## Objects of static storage

abbrev pub value_or_null : Option StaticValue → StaticValue
value_or_null None = StaticValues.Null
value_or_null (Some v) = v

abbrev pub static_cell_of : State → GivenTree → StaticCell
static_cell_of s g = record { cell = g.cell; value = value_or_null (static_value s g.value) }

abbrev pub with_static : State → ℕ → Static → State
with_static s k new = record s { statics = slice_set s.statics k new }

-- the cells that its initialiser gives to the object k
abbrev pub initialised_static : State → ℕ → Option InitialiserTree → Result State Refusal
initialised_static s k None = Ok s
initialised_static s k (Some i) = then_with (initial true s (static_type s k).number 0 i.value) (λ g.
    Ok (with_static g.1 k (record (static g.1 k) { given = map (static_cell_of g.1) g.0 })))

-- a further object
abbrev pub new_static : State → Declared → Bool → State
new_static s d defined = record s {
  statics = s.statics ++ record {
    name = d.name;
    place = d.place;
    of = d.shape.of;
    defined = defined;
    initialised = is_some d.initialiser;
    given = [];
  } ∷ [];
}

-- the object of static storage that a name names
abbrev pub static_number : Option Named → Option ℕ
static_number (Some (Names.Object (Objects.Static k) q)) = Some k
static_number _ = None

-- the object whose name is linked with this one (C99 6.2.2)
abbrev pub linked : State → Name → Option ℕ
linked s n = static_number (option_map (λ b. b.named) (last_declared (λ b. b.name) n s.linkage))

-- the name is linked with the object k from now on
abbrev pub with_linkage : State → Declared → ℕ → State
with_linkage s d k = record s {
  linkage = s.linkage
      ++ record { name = d.name; named = Names.Object (Objects.Static k) d.shape.of } ∷ [];
}

-- the same type, `const` being ignored, but not `volatile`
abbrev pub is_same_object : Scope → Qualified → Qualified → Bool
is_same_object scope q r = is_same_type scope q.number r.number && is_same_bool q.volatile r.volatile

-- a further declaration of an object: of the same type, and with the only initialiser
abbrev pub clashes : State → Declared → Option ℕ → Bool
clashes s d None = false
clashes s d (Some k) =
    d.shape.is_open || not (is_same_object s.scope (static_type s k) d.shape.of) ||
    ((static s k).initialised && is_some d.initialiser)

-- what a name of the present block names, other than the object that is linked with it
abbrev pub is_other : Option Named → Option ℕ → Bool
is_other None object = false
is_other (Some (Names.Object (Objects.Static k) q)) (Some l) = not (k == l)
is_other (Some n) object = true

abbrev pub bound_unless : State → Declared → ℕ → Option Named → State
bound_unless s d k None = bound_here s d (Names.Object (Objects.Static k) (static_type s k))
bound_unless s d k (Some n) = s

-- a declaration of the object k, which keeps the type of its first one
abbrev pub redeclared : State → Declared → Bool → ℕ → State
redeclared s d defined k =
    with_static s k (record (static s k) {
      defined = (static s k).defined || defined;
      initialised =
          (static s k).initialised || is_some d.initialiser;
    })

-- the linked object of the name, or a new one, named in the present block; with its number
abbrev pub linked_object : State → Declared → Bool → Option ℕ → ℕ × State
linked_object s d defined (Some k) = (k, bound_unless (redeclared s d defined k) d k (named_here s.scope d.name))
linked_object s d defined None = let k = length s.statics in
    (k, bound_unless (with_linkage (new_static s d defined) d k) d k (named_here s.scope d.name))

-- ## Objects at file scope (C99 6.9.2)

-- every declaration but a bare `extern` defines the object
abbrev pub file_object : State → Bool → Declared → Result State Refusal
file_object s bare_extern d =
    row d.shape.left_out Kinds.Unsupported d.place
    (row (is_other (named_here s.scope d.name) (linked s d.name) || clashes s d (linked s d.name)) Kinds.Redeclared
    d.place
    (row (is_no_object s.scope d.shape) Kinds.Mismatch d.place
    (let o = linked_object s d (not bare_extern) (linked s d.name) in initialised_static o.1 o.0 d.initialiser)))

abbrev pub is_extern : Option Storage → Bool
is_extern (Some Storages.Extern) = true
is_extern _ = false

abbrev pub is_typedef : Option Storage → Bool
is_typedef (Some Storages.Typedef) = true
is_typedef _ = false

abbrev pub is_static : Option Storage → Bool
is_static (Some Storages.Static) = true
is_static _ = false

abbrev pub file_rules : State → Option Storage → Declared → Result State Refusal
file_rules s storage d =
    cond (is_typedef storage) (typedef_rules s d) (file_object s (is_extern storage && not (is_some d.initialiser)) d)

-- ## Objects in blocks

-- A function of the name is visible, which is linked with it and of another type.
abbrev pub is_function : Option Named → Bool
is_function (Some (Names.Function f)) = true
is_function (Some Names.Task) = true
is_function _ = false

-- an `extern` declaration in a block has no initialiser (C99 6.7.8)
abbrev pub no_value : State → ValueTree → Result State Refusal
no_value s (an_expression t) = then_with (typed_in s t) (λ o. refused Kinds.Mismatch (place_of t))
no_value s (a_list vs p) = refused Kinds.Mismatch p

abbrev pub extern_value : State → Option InitialiserTree → Result State Refusal
extern_value s None = Ok s
extern_value s (Some i) = no_value s i.value

-- it names the object at file scope, wherever that is declared (C99 6.2.2)
abbrev pub extern_object : State → Declared → Result State Refusal
extern_object s d =
    row d.shape.left_out Kinds.Unsupported d.place
    (row (is_other (named_here s.scope d.name) (linked s d.name) || is_function (named s.scope d.name) || clashes s d
    (linked s d.name)) Kinds.Redeclared d.place
    (row (is_no_object s.scope d.shape) Kinds.Mismatch d.place
    (then_with (extern_value s d.initialiser) (λ t. Ok (linked_object t d false (linked t d.name)).1))))

-- an object without linkage has one declaration
abbrev pub object_rules : {A : Type 0} → State → Declared → Result A Refusal → Result A Refusal
object_rules s d further =
    row d.shape.left_out Kinds.Unsupported d.place
    (row (is_declared_here s d.name) Kinds.Redeclared d.place
    (row (is_no_object s.scope d.shape) Kinds.Mismatch d.place further))

abbrev pub static_object : State → Declared → Result State Refusal
static_object s d = let k = length s.statics in
    object_rules s d (initialised_static
    (bound_here (new_static s d true) d (Names.Object (Objects.Static k) d.shape.of)) k d.initialiser)

abbrev pub LocalInitial : Type 0
LocalInitial = Option LocalInitialiserTree × State

abbrev pub initialised_local : State → ℕ → Option InitialiserTree → Result LocalInitial Refusal
initialised_local s n None = Ok (None, s)
initialised_local s n (Some i) =
    then_with (initial false s n 0 i.value) (λ g. Ok (Some (record { given = g.0; place = i.place }), g.1))

-- a further object of the body
abbrev pub new_local : State → Declared → State
new_local s d = bound_here
    (record s { locals = s.locals ++ record { name = d.name; place = d.place; of = d.shape.of } ∷ [] }) d
    (Names.Object (Objects.Local (length s.locals)) d.shape.of)

-- what is declared in a block: the objects that are cleared and initialised where it is reached
abbrev pub Locals : Type 0
Locals = List LocalTree × State

abbrev pub local_object : State → Declared → Result Locals Refusal
local_object s d = object_rules s d (then_with (initialised_local (new_local s d) d.shape.of.number d.initialiser) (λ i.
    Ok (record { object = length s.locals; initialiser = i.0 } ∷ [], i.1)))

abbrev pub no_locals : State → Result Locals Refusal
no_locals s = Ok ([], s)

abbrev pub local_rules : State → Option Storage → Declared → Result Locals Refusal
local_rules s (Some Storages.Typedef) d = then_with (typedef_rules s d) no_locals
local_rules s (Some Storages.Extern) d = then_with (extern_object s d) no_locals
local_rules s (Some Storages.Static) d = then_with (static_object s d) no_locals
local_rules s storage d = local_object s d

-- ## Declarations

abbrev pub file_declared : State → Said → List InitDeclaratorTree → Result State Refusal
file_declared s said [] = Ok s
file_declared s said (d ∷ ds) =
    then_with (declared_by s said d) (λ m. then_with (file_rules m.1 said.storage m.0) (λ t. file_declared t said ds))

-- objects behind others
abbrev pub local_declared : State → Said → List LocalTree → List InitDeclaratorTree → Result Locals Refusal
local_declared s said found [] = Ok (found, s)
local_declared s said found (d ∷ ds) =
    then_with (declared_by s said d)
    (λ m. then_with (local_rules m.1 said.storage m.0) (λ l. local_declared l.1 said (found ++ l.0) ds))

abbrev pub tag_of : SpecWord → Option Tag
tag_of (Specs.Tagged Tags.Struct tag p) = Some (record { name = tag; place = p })
tag_of _ = None

-- `struct S;` alone
abbrev pub lone_tag : SpecifierTrees → List InitDeclaratorTree → Option Tag
lone_tag (and_specifier (a_plain spec) no_specifiers) [] = tag_of spec.word
lone_tag xs ds = None

-- it declares the tag in the present block, whatever is visible from outside (C99 6.7.2.3)
abbrev pub tag_rules : State → Tag → Option Tagged → Result State Refusal
tag_rules s t None = Ok (record s { scope = with_struct_tag t.name s.scope })
tag_rules s t (Some (Tagging.Structure k)) = Ok s
tag_rules s t (Some (Tagging.Enumeration z)) = refused Kinds.Redeclared t.place

abbrev pub file_form : State → DeclarationTree → Option Tag → Result State Refusal
file_form s d (Some t) = tag_rules s t (tagged_here s.scope t.name)
file_form s d None = then_with (specified s d.specifiers) (λ m. file_declared m.1 m.0 d.declarators)

-- a declaration at file scope
abbrev pub file_declaration : State → DeclarationTree → Result State Refusal
file_declaration s d = file_form s d (lone_tag d.specifiers d.declarators)

abbrev pub local_form : State → DeclarationTree → Option Tag → Result Locals Refusal
local_form s d (Some t) = then_with (tag_rules s t (tagged_here s.scope t.name)) no_locals
local_form s d None = then_with (specified s d.specifiers) (λ m. local_declared m.1 m.0 [] d.declarators)

-- a declaration in a block, or at the head of a `for`
abbrev pub local_declaration : State → DeclarationTree → Result Locals Refusal
local_declaration s d = local_form s d (lone_tag d.specifiers d.declarators)
