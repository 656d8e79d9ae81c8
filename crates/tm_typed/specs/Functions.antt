-- Functions and tasks (C99 6.7.5.3, 6.9.1): their parameters, their declarations, and their bodies.
use Rattle.std.specs.Prelude.{ℕ, ℤ, pos, ◌+◌, Bool, true, false, not, ◌&&◌, ◌||◌, cond, is_some, nat_le, List, [], ◌∷◌}
use Rattle.std.specs.Prelude.{◌++◌, length, map, take, drop, get_or, slice_get, slice_set, Option, Some, None, Result}
use Rattle.std.specs.Prelude.{Ok}
use Rattle.std.specs.List.{filter_map}
use Rattle.tm_trees.specs.tm_cint.declared.int_types.IntType.{IntType}
use Rattle.tm_trees.specs.tm_terms.declared.places.Place.{Place}
use Rattle.tm_trees.specs.tm_terms.declared.tokens.Name.{Name}
use Rattle.tm_trees.specs.tm_terms.declared.types_named.PointerWord.{PointerWord}
use Rattle.tm_trees.specs.tm_terms.declared.types_named.Storage.{Storage}
use Rattle.tm_trees.specs.tm_terms.declared.refusals.Kind.TheVariants as Kinds
use Rattle.tm_trees.specs.tm_terms.declared.refusals.Refusal.{Refusal}
use Rattle.tm_trees.specs.tm_terms.ExprTrees.{Tree}
use Rattle.tm_trees.specs.DeclarationTrees.{DeclaratorTree, declared_name, SpecifierTrees, no_specifiers, and_specifier}
use Rattle.tm_trees.specs.DeclarationTrees.{counts_as}
use Rattle.tm_trees.specs.FileTrees.{PartTrees, ParameterTree, a_named_parameter, an_unnamed_parameter, ParametersTree}
use Rattle.tm_trees.specs.FileTrees.{only_void, some_parameters, FunctionTree}
use Rattle.tm_typed.specs.declared.types.Qualified.{Qualified}
use Rattle.tm_typed.specs.declared.types.CType.{CType}
use Rattle.tm_typed.specs.declared.types.CType.TheVariants as Types
use Rattle.tm_typed.specs.declared.scopes.Named.{Named}
use Rattle.tm_typed.specs.declared.scopes.Named.TheVariants as Names
use Rattle.tm_typed.specs.declared.scopes.Binding.{Binding}
use Rattle.tm_typed.specs.declared.scopes.ObjectNumber.TheVariants as Objects
use Rattle.tm_typed.specs.declared.specifiers.Said.{Said}
use Rattle.tm_typed.specs.declared.specifiers.Shape.{Shape}
use Rattle.tm_typed.specs.declared.files.LocalEntry.{LocalEntry}
use Rattle.tm_typed.specs.declared.uses.Use.{Use}
use Rattle.tm_typed.specs.declared.uses.Used.{Used}
use Rattle.tm_typed.specs.declared.uses.Used.TheVariants as Uses
use Rattle.tm_typed.specs.Types.{void_number}
use Rattle.tm_typed.specs.Scopes.{Scope, Function, named_here, ctype_of, is_same_type}
use Rattle.tm_typed.specs.TypeRows.{with_type, number_in}
use Rattle.tm_typed.specs.Refusals.{refused, then_with, row, row_unless}
use Rattle.tm_typed.specs.States.{State, with_name, left_to, in_scope}
use Rattle.tm_typed.specs.Evaluation.{measured, folded_value}
use Rattle.tm_typed.specs.TypeNames.{is_void}
use Rattle.tm_typed.specs.Specifiers.{base, plain}
use Rattle.tm_typed.specs.Declarators.{declared, declared_pointers}
use Rattle.tm_typed.specs.Structures.{declared_place, is_declared_here, specified}
use Rattle.tm_typed.specs.Declarations.{is_typedef, linked}
use Rattle.tm_typed.specs.TypedStatements.{TypedTrees}
use Rattle.tm_typed.specs.StatementRules.{in_body}
use Rattle.tm_typed.specs.StatementTyping.{parts_in}

-- ## Parameters (C99 6.7.5.3)

-- a type without qualifiers, which the table has from now on
abbrev pub type_in : Scope → CType → Qualified × Scope
type_in scope t = (plain (number_in (with_type scope t) t), with_type scope t)

abbrev pub adjusted_type : Scope → Shape → CType → Qualified × Scope
adjusted_type scope shape (Types.Array element n) = type_in scope (Types.Pointer (record shape.of { number = element }))
adjusted_type scope shape t = (shape.of, scope)

-- an array as a parameter is a pointer to its first element
abbrev pub adjusted : Scope → Shape → Qualified × Scope
adjusted scope shape =
    cond shape.is_open (type_in scope (Types.Pointer shape.of))
    (adjusted_type scope shape (ctype_of scope shape.of.number))

abbrev pub is_structure_type : CType → Bool
is_structure_type (Types.Struct k) = true
is_structure_type _ = false

-- a structure by value, which is left out
abbrev pub is_by_value : Scope → Shape → Bool
is_by_value scope shape = not shape.is_open && is_structure_type (ctype_of scope shape.of.number)

-- `void`, but not an array of it, which is a mismatch already
abbrev pub is_of_void : Scope → Shape → Bool
is_of_void scope shape = not shape.is_open && is_void (ctype_of scope shape.of.number)

-- a further object of the body that is typed, which the name of a parameter names
abbrev pub with_parameter : State → Bool → LocalEntry → State
with_parameter s is_named entry = record s {
  scope = cond is_named (with_name entry.name (Names.Object (Objects.Local (length s.locals)) entry.of) s.scope)
      s.scope;
  locals = s.locals ++ entry ∷ [];
}

-- A parameter with this name and place: neither a structure by value nor of type `void`, and two have not one name.
abbrev pub parameter_rules : State → Bool → Name → Place → Shape → Result State Refusal
parameter_rules s is_named n p shape =
    row (shape.left_out || is_by_value s.scope shape) Kinds.Unsupported p
    (row (is_named && is_declared_here s n) Kinds.Redeclared p
    (row (shape.mismatch || is_of_void s.scope shape) Kinds.Mismatch p
    (let a = adjusted s.scope shape in
    Ok (with_parameter (in_scope s a.1) is_named (record { name = n; place = p; of = a.0 })))))

-- the name of a parameter without one
abbrev pub no_name : Name
no_name = record { start = 0; length = 0 }

-- the place of the first of some specifiers
abbrev pub first_place : SpecifierTrees → Place
first_place no_specifiers = record { line = 0; col = 0 }
first_place (and_specifier s xs) = (counts_as s).place

abbrev pub parameter_in : State → ParameterTree → Result State Refusal
parameter_in s (a_named_parameter specifiers d) =
    then_with (specified s specifiers) (λ m.
    then_with (declared m.1 (base m.0) d) (λ a.
    parameter_rules a.1 true (declared_name d) (declared_place d) a.0))
parameter_in s (an_unnamed_parameter specifiers pointers) =
    then_with (specified s specifiers) (λ m. let a = declared_pointers m.1 (base m.0) pointers in
    parameter_rules a.1 false no_name (first_place specifiers) a.0)

abbrev pub listed_parameters : State → List ParameterTree → Result State Refusal
listed_parameters s [] = Ok s
listed_parameters s (p ∷ ps) = then_with (parameter_in s p) (λ t. listed_parameters t ps)

abbrev pub parameters_in : State → ParametersTree → Result State Refusal
parameters_in s only_void = Ok s
parameters_in s (some_parameters ps) = listed_parameters s ps

-- ## Blocks of functions: a function's parameters and its outermost block are one scope

-- the names of a block at file scope are left, its tags are not
abbrev pub left_names : Scope → Scope
left_names scope = record scope { names = take scope.outer_names scope.names; outer_names = 0 }

-- its tags alone are left
abbrev pub left_tags : Scope → Scope
left_tags scope = record scope { tags = take scope.outer_tags scope.tags; outer_tags = 0 }

-- a block at file scope ends, outside which nothing stands
abbrev pub to_file : State → State
to_file s = in_scope s (left_to 0 0 s.scope)

-- a block of names begins, with these names
abbrev pub entered_with : List Binding → Scope → Scope
entered_with names scope = record scope { outer_names = length scope.names; names = scope.names ++ names }

-- the names of the present block
abbrev pub names_here : Scope → List Binding
names_here scope = drop scope.outer_names scope.names

-- a body begins: it has no objects and calls so far
abbrev pub body_begins : State → State
body_begins s = record s { locals = []; site = 0 }

-- ## Declarations of functions

-- the types of some objects
abbrev pub types_of : List LocalEntry → List ℕ
types_of ls = map (λ l. l.of.number) ls

abbrev pub are_same_types : Scope → List ℕ → List ℕ → Bool
are_same_types scope [] [] = true
are_same_types scope (m ∷ ms) (n ∷ ns) = is_same_type scope m n && are_same_types scope ms ns
are_same_types scope _ _ = false

-- what a declaration says of a function
pub record Head : Type 0 where
  pub name : Name
  pub place : Place
  pub result : ℕ
  pub parameters : List ℕ
  pub is_definition : Bool

-- what stands in place of a function that there is not
abbrev pub no_function : Function
no_function = record { result = 0; parameters = []; defined = false }

abbrev pub function : Scope → ℕ → Function
function scope f = get_or scope.functions f no_function

-- of the same type, where at most one declaration is a definition
abbrev pub agrees : Scope → Head → Function → Bool
agrees scope h f =
    is_same_type scope h.result f.result && are_same_types scope h.parameters f.parameters && not
    (h.is_definition && f.defined)

abbrev pub disagrees : Scope → Head → Option Function → Bool
disagrees scope h None = true
disagrees scope h (Some f) = not (agrees scope h f)

-- A further declaration of the name at file scope is one of the same function. An object of that name that a block
-- declares `extern` is declared at file scope too.
abbrev pub clashes_with : State → Head → Option Named → Bool
clashes_with s h None = is_some (linked s h.name)
clashes_with s h (Some (Names.Function f)) = disagrees s.scope h (slice_get s.scope.functions f)
clashes_with s h (Some _) = true

-- the number of a declared function
abbrev pub number_of : Scope → Option Named → ℕ
number_of scope (Some (Names.Function f)) = f
number_of scope _ = length scope.functions

-- the function is declared: the first time it gets the next number, with the types of its result and its parameters
abbrev pub with_function : Scope → Head → Option Named → Scope
with_function scope h (Some (Names.Function f)) =
    cond h.is_definition (record scope {
      functions =
          slice_set scope.functions f (record (function scope f) { defined = true });
    }) scope
with_function scope h _ =
    with_name h.name (Names.Function (length scope.functions)) (record scope {
      functions = scope.functions
          ++ record { result = h.result; parameters = h.parameters; defined = h.is_definition } ∷ [];
    })

abbrev pub is_array_type : CType → Bool
is_array_type (Types.Array element n) = true
is_array_type _ = false

-- The rows of the function's name: no structure and no array by value, one function of the name, and no typedef.
abbrev pub function_rules : State → Head → Option Storage → Shape → Result (Unit {0}) Refusal
function_rules s h storage result =
    row (result.left_out || is_by_value s.scope result) Kinds.Unsupported h.place
    (row (clashes_with s h (named_here s.scope h.name)) Kinds.Redeclared h.place
    (row (is_typedef storage || is_array_type (ctype_of s.scope result.of.number)) Kinds.Mismatch h.place (Ok tt)))

-- ## Bodies

-- The body of a function or a task: its parameters and its local objects, how many are parameters, and its statements.
pub record TypedBodyTree : Type 0 where
  pub locals : List LocalEntry
  pub parameters : ℕ
  pub statements : TypedTrees

abbrev pub function_used : Used → Option ℕ
function_used (Uses.Function f) = Some f
function_used (Uses.Static k) = None

abbrev pub called_function : Use → Option ℕ
called_function u = function_used u.used

-- the functions that are called by uses behind the first n
abbrev pub called_since : ℕ → List Use → List ℕ
called_since n uses = filter_map called_function (drop n uses)

-- a body with the functions that it calls, in the order of the text, and the state behind it
pub record FoundBody : Type 0 where
  pub body : TypedBodyTree
  pub calls : List ℕ
  pub state : State

-- a body in a state in which its parameters are declared, of a function with a result of this type
abbrev pub body_in : State → ℕ → PartTrees → Result FoundBody Refusal
body_in s result parts =
    then_with (parts_in s (in_body result) parts) (λ b. Ok (record {
      body = record { locals = b.1.locals; parameters = length s.locals; statements = b.0 };
      calls = called_since (length s.uses) b.1.uses;
      state = body_begins b.1;
    }))
