-- What is visible at a place of the text (C99 6.2.1 to 6.2.3), and the tables of types, structures and functions.
use Rattle.std.specs.Prelude.{ℕ, Bool, true, false, cond, ◌==◌, drop, List, [], ◌∷◌, Option, Some, None, option_map}
use Rattle.std.specs.Prelude.{get_or}
use Rattle.tm_trees.specs.tm_terms.declared.tokens.Name.{Name}
use Rattle.tm_trees.specs.tm_terms.Names.{is_same_name}
use Rattle.tm_typed.specs.declared.types.CType.{CType}
use Rattle.tm_typed.specs.declared.types.CType.TheVariants as Types
use Rattle.tm_typed.specs.declared.types.TypeEntry.{TypeEntry}
use Rattle.tm_typed.specs.declared.scopes.Named.{Named}
use Rattle.tm_typed.specs.declared.scopes.Binding.{Binding}
use Rattle.tm_typed.specs.declared.scopes.Tagged.{Tagged}
use Rattle.tm_typed.specs.declared.scopes.TagBinding.{TagBinding}
use Rattle.tm_typed.specs.declared.scopes.Member.{Member}
use Rattle.tm_typed.specs.declared.scopes.StructEntry.{StructEntry}
use Rattle.tm_typed.specs.declared.scopes.FunctionEntry.{FunctionEntry}
use Rattle.tm_typed.specs.Types.{no_type}

-- ## The records

-- a structure: opened at its `{`, complete from its `}` on, with its members in order
pub record Structure : Type 0 where
  pub opened : Bool
  pub complete : Bool
  pub members : List Member
  pub cells : ℕ
  pub abstract_cells : ℕ
  pub size : ℕ
  pub tight_size : ℕ
  pub alignment : ℕ

-- a function: the numbers of its result's and its parameters' types, and whether it has a body so far
pub record Function : Type 0 where
  pub result : ℕ
  pub parameters : List ℕ
  pub defined : Bool

-- Names and tags in the order of their declarations, with how many of each stand outside the present block; and the
-- tables.
pub record Scope : Type 0 where
  pub names : List Binding
  pub tags : List TagBinding
  pub outer_names : ℕ
  pub outer_tags : ℕ
  pub types : List TypeEntry
  pub structs : List Structure
  pub functions : List Function

-- what the code holds, as plain records
abbrev pub structure_of : StructEntry → Structure
structure_of s = record {
  opened = s.opened;
  complete = s.complete;
  members = s.members.items;
  cells = s.cells;
  abstract_cells = s.abstract_cells;
  size = s.size;
  tight_size = s.tight_size;
  alignment = s.alignment;
}

abbrev pub function_of : FunctionEntry → Function
function_of f = record { result = f.result; parameters = f.parameters.items; defined = f.defined }

-- ## Names

-- a, or else b
abbrev pub or_else : {A : Type 0} → Option A → Option A → Option A
or_else (Some a) b = Some a
or_else None b = b

-- the last of some declarations that declares the name
abbrev pub last_declared : {A : Type 0} → (A → Name) → Name → List A → Option A
last_declared name n [] = None
last_declared name n (d ∷ ds) = or_else (last_declared name n ds) (cond (is_same_name (name d) n) (Some d) None)

-- what a name names: the innermost declaration hides the others (C99 6.2.1)
abbrev pub named : Scope → Name → Option Named
named scope n = option_map (λ b. b.named) (last_declared (λ b. b.name) n scope.names)

-- what it names by a declaration of the present block
abbrev pub named_here : Scope → Name → Option Named
named_here scope n = option_map (λ b. b.named) (last_declared (λ b. b.name) n (drop scope.outer_names scope.names))

-- what a tag names, which has a name space of its own (C99 6.2.3)
abbrev pub tagged : Scope → Name → Option Tagged
tagged scope n = option_map (λ b. b.tagged) (last_declared (λ b. b.name) n scope.tags)

abbrev pub tagged_here : Scope → Name → Option Tagged
tagged_here scope n = option_map (λ b. b.tagged) (last_declared (λ b. b.name) n (drop scope.outer_tags scope.tags))

-- ## Types

-- a row of the table of types
abbrev pub entry : Scope → ℕ → TypeEntry
entry scope n = get_or scope.types n no_type

-- the type with this number
abbrev pub ctype_of : Scope → ℕ → CType
ctype_of scope n = (entry scope n).ctype

-- the same type but for `const` and for the qualifiers of what has it
abbrev pub is_same_type : Scope → ℕ → ℕ → Bool
is_same_type scope m n = (entry scope m).class == (entry scope n).class

-- what stands in place of a structure that there is not
abbrev pub no_structure : Structure
no_structure = record {
  opened = false;
  complete = false;
  members = [];
  cells = 0;
  abstract_cells = 0;
  size = 0;
  tight_size = 0;
  alignment = 0;
}

abbrev pub structure : Scope → ℕ → Structure
structure scope k = get_or scope.structs k no_structure

abbrev pub is_complete_type : Scope → CType → Bool
is_complete_type scope Types.Void = false
is_complete_type scope (Types.Struct k) = (structure scope k).complete
is_complete_type scope _ = true

-- an object type whose size is known (C99 6.2.5): a structure has it from its `}` on
abbrev pub is_complete : Scope → ℕ → Bool
is_complete scope n = is_complete_type scope (ctype_of scope n)

abbrev pub cells_by : Scope → TypeEntry → CType → ℕ
cells_by scope e (Types.Struct k) = (structure scope k).cells
cells_by scope e _ = e.cells

-- the scalar cells of a type
abbrev pub cells_of : Scope → ℕ → ℕ
cells_of scope n = cells_by scope (entry scope n) (ctype_of scope n)

abbrev pub abstract_cells_by : Scope → TypeEntry → CType → ℕ
abstract_cells_by scope e (Types.Struct k) = (structure scope k).abstract_cells
abstract_cells_by scope e _ = e.abstract_cells

-- the cells of a type that an analysis tells apart: an array of 65 elements and more counts as one element
abbrev pub abstract_cells_of : Scope → ℕ → ℕ
abstract_cells_of scope n = abstract_cells_by scope (entry scope n) (ctype_of scope n)

abbrev pub size_by : Scope → TypeEntry → CType → ℕ
size_by scope e (Types.Struct k) = (structure scope k).size
size_by scope e _ = e.size

-- the bytes of a type, modulo 2^32
abbrev pub size_of : Scope → ℕ → ℕ
size_of scope n = size_by scope (entry scope n) (ctype_of scope n)

abbrev pub tight_size_by : Scope → TypeEntry → CType → ℕ
tight_size_by scope e (Types.Struct k) = (structure scope k).tight_size
tight_size_by scope e _ = e.tight_size

-- .. where `long long` is aligned to 4, as on i386
abbrev pub tight_size_of : Scope → ℕ → ℕ
tight_size_of scope n = tight_size_by scope (entry scope n) (ctype_of scope n)

abbrev pub alignment_by : Scope → TypeEntry → CType → ℕ
alignment_by scope e (Types.Struct k) = (structure scope k).alignment
alignment_by scope e _ = e.alignment

-- the alignment of a type
abbrev pub alignment_of : Scope → ℕ → ℕ
alignment_of scope n = alignment_by scope (entry scope n) (ctype_of scope n)

-- the members of a structure that can be named
abbrev pub members_of : Structure → List Member
members_of s = cond s.complete s.members []

-- the member of a structure with this name
abbrev pub member_of : Scope → ℕ → Name → Option Member
member_of scope k n = last_declared (λ m. m.name) n (members_of (structure scope k))
