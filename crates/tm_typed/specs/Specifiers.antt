-- Specifiers (C99 6.7.1 to 6.7.3): what the words of a list say together, and which type they name.
use Rattle.std.specs.Prelude.{ℕ, zero, suc, ◌+◌, Bool, true, false, cond, ◌||◌, [], ◌∷◌, ◌++◌, length, Option, Some}
use Rattle.std.specs.Prelude.{None, Result, Ok}
use Rattle.tm_trees.specs.tm_cint.declared.int_types.IntType.{IntType}
use Rattle.tm_trees.specs.tm_cint.declared.int_types.IntType.TheVariants as Ints
use Rattle.tm_trees.specs.tm_terms.declared.places.Place.{Place}
use Rattle.tm_trees.specs.tm_terms.declared.tokens.Name.{Name}
use Rattle.tm_trees.specs.tm_terms.declared.refusals.Kind.TheVariants as Kinds
use Rattle.tm_trees.specs.tm_terms.declared.refusals.Refusal.{Refusal}
use Rattle.tm_trees.specs.tm_terms.declared.types_named.SpecWord.{SpecWord}
use Rattle.tm_trees.specs.tm_terms.declared.types_named.SpecWord.TheVariants as Specs
use Rattle.tm_trees.specs.tm_terms.declared.types_named.Qualifier.{Qualifier}
use Rattle.tm_trees.specs.tm_terms.declared.types_named.Qualifier.TheVariants as Qualifiers
use Rattle.tm_trees.specs.tm_terms.declared.types_named.Basic.{Basic}
use Rattle.tm_trees.specs.tm_terms.declared.types_named.Basic.TheVariants as Basics
use Rattle.tm_trees.specs.tm_terms.declared.types_named.TagKind.TheVariants as Tags
use Rattle.tm_typed.specs.declared.types.Qualified.{Qualified}
use Rattle.tm_typed.specs.declared.types.CType.TheVariants as Types
use Rattle.tm_typed.specs.declared.scopes.Named.{Named}
use Rattle.tm_typed.specs.declared.scopes.Named.TheVariants as Names
use Rattle.tm_typed.specs.declared.scopes.Tagged.{Tagged}
use Rattle.tm_typed.specs.declared.scopes.Tagged.TheVariants as Tagging
use Rattle.tm_typed.specs.declared.specifiers.Said.{Said}
use Rattle.tm_typed.specs.Types.{void_number, int_number, enumeration_number}
use Rattle.tm_typed.specs.Scopes.{Scope, no_structure, named, tagged}
use Rattle.tm_typed.specs.TypeRows.{number_in, with_type}
use Rattle.tm_typed.specs.States.{with_tag}
use Rattle.tm_typed.specs.Refusals.{refused}

-- ## The words

-- no word so far
abbrev pub nothing_said : Said
nothing_said = record {
  storage = None;
  constant = false;
  volatile = false;
  void = false;
  boolean = false;
  character = false;
  short = false;
  unsigned = false;
  long = false;
  long_long = false;
  declared = None;
}

abbrev pub said_qualifier : Said → Qualifier → Said
said_qualifier said Qualifiers.Const = record said { constant = true }
said_qualifier said Qualifiers.Volatile = record said { volatile = true }
said_qualifier said Qualifiers.Inline = said
said_qualifier said Qualifiers.Restrict = said

-- `int` and `signed` add nothing: they are what is meant without them
abbrev pub said_basic : Said → Basic → Said
said_basic said Basics.Void = record said { void = true }
said_basic said Basics.Bool = record said { boolean = true }
said_basic said Basics.Char = record said { character = true }
said_basic said Basics.Short = record said { short = true }
said_basic said Basics.Int = said
said_basic said Basics.Long = record said { long = true; long_long = said.long }
said_basic said Basics.Signed = said
said_basic said Basics.Unsigned = record said { unsigned = true }

abbrev pub said_type : Said → Qualified → Said
said_type said q = record said { declared = Some q }

-- a type without qualifiers
abbrev pub plain : ℕ → Qualified
plain n = record { number = n; constant = false; volatile = false }

abbrev pub by_sign : Bool → IntType → IntType → IntType
by_sign unsigned u t = cond unsigned u t

-- the lists of C99 6.7.2, in any order
abbrev pub integer_said : Said → IntType
integer_said said =
    cond said.boolean Ints.Bool
    (cond said.character (by_sign said.unsigned Ints.UChar Ints.Char)
    (cond said.short (by_sign said.unsigned Ints.UShort Ints.Short)
    (cond said.long_long (by_sign said.unsigned Ints.ULLong Ints.LLong)
    (cond said.long (by_sign said.unsigned Ints.ULong Ints.Long) (by_sign said.unsigned Ints.UInt Ints.Int)))))

-- the type that is named by a declaration, or else by words
abbrev pub type_said : Said → Option Qualified → Qualified
type_said said (Some q) = q
type_said said None = plain (cond said.void void_number (int_number (integer_said said)))

-- the type that specifiers name, with their qualifiers and those of the named type
abbrev pub base : Said → Qualified
base said = let q = type_said said said.declared in
    record { number = q.number; constant = q.constant || said.constant; volatile = q.volatile || said.volatile }

-- ## Typedef names and tags

-- the name of a typedef names its type; the grammar has no other name there
abbrev pub alias_rules : Said → Place → Option Named → Result Said Refusal
alias_rules said p (Some (Names.Alias q)) = Ok (said_type said q)
alias_rules said p _ = refused Kinds.Undeclared p

-- `struct S`, S being declared: a tag of the other kind is refused at the tag (C99 6.7.2.3)
abbrev pub struct_rules : Scope → Said → Place → Option Tagged → Result Said Refusal
struct_rules scope said p (Some (Tagging.Structure k)) = Ok (said_type said (plain (number_in scope (Types.Struct k))))
struct_rules scope said p (Some (Tagging.Enumeration z)) = refused Kinds.Redeclared p
struct_rules scope said p None = refused Kinds.Undeclared p

-- `enum E` without a list names a declared enumeration (C99 6.7.2.2)
abbrev pub enum_rules : Said → Place → Option Tagged → Result Said Refusal
enum_rules said p (Some (Tagging.Enumeration z)) = Ok (said_type said (plain (enumeration_number z)))
enum_rules said p (Some (Tagging.Structure k)) = refused Kinds.Redeclared p
enum_rules said p None = refused Kinds.Undeclared p

-- what one more word says
abbrev pub word_rules : Scope → Said → Place → SpecWord → Result Said Refusal
word_rules scope said p (Specs.Storage storage) = Ok (record said { storage = Some storage })
word_rules scope said p (Specs.Qualifier q) = Ok (said_qualifier said q)
word_rules scope said p (Specs.Basic b) = Ok (said_basic said b)
word_rules scope said p (Specs.Alias n) = alias_rules said p (named scope n)
word_rules scope said p (Specs.Tagged Tags.Struct tag q) = struct_rules scope said q (tagged scope tag)
word_rules scope said p (Specs.Tagged Tags.Enum tag q) = enum_rules said q (tagged scope tag)

-- ## Tags that are named first

-- a structure of which nothing but its tag is known
abbrev pub new_structure : Scope → Scope
new_structure scope =
    with_type (record scope { structs = scope.structs ++ no_structure ∷ [] }) (Types.Struct (length scope.structs))

-- a new structure with this tag in the present block
abbrev pub with_struct_tag : Name → Scope → Scope
with_struct_tag tag scope = new_structure (with_tag tag (Tagging.Structure (length scope.structs)) scope)

abbrev pub mentioned_tag : Scope → Name → Option Tagged → Scope
mentioned_tag scope tag None = with_struct_tag tag scope
mentioned_tag scope tag (Some t) = scope

-- `struct S` declares the tag in the present block where none of that name is visible (C99 6.7.2.3)
abbrev pub mentioned : Scope → SpecWord → Scope
mentioned scope (Specs.Tagged Tags.Struct tag q) = mentioned_tag scope tag (tagged scope tag)
mentioned scope _ = scope
