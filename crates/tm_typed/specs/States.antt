-- What typing has found so far: what is visible, the objects, and what later layers need of the text.
use Rattle.std.specs.Prelude.{ℕ, ℤ, Bool, false, List, [], ◌∷◌, ◌++◌, length, take, get_or}
use Rattle.tm_trees.specs.tm_terms.declared.places.Place.{Place}
use Rattle.tm_trees.specs.tm_terms.declared.tokens.Name.{Name}
use Rattle.tm_typed.specs.declared.types.Qualified.{Qualified}
use Rattle.tm_typed.specs.declared.scopes.Binding.{Binding}
use Rattle.tm_typed.specs.declared.scopes.Named.{Named}
use Rattle.tm_typed.specs.declared.scopes.Tagged.{Tagged}
use Rattle.tm_typed.specs.declared.files.LocalEntry.{LocalEntry}
use Rattle.tm_typed.specs.declared.files.StaticCell.{StaticCell}
use Rattle.tm_typed.specs.Scopes.{Scope}
use Rattle.tm_typed.specs.declared.uses.Use.{Use}

-- An object of static storage: its name and place in its first declaration; its type; whether a declaration other than
-- a bare `extern` defines it, and whether it has an initialiser so far; and the cells that its initialiser gives.
pub record Static : Type 0 where
  pub name : Name
  pub place : Place
  pub of : Qualified
  pub defined : Bool
  pub initialised : Bool
  pub given : List StaticCell

-- What is visible; the objects of static storage, and the names with linkage, which all their declarations share (C99
-- 6.2.2); of the body that is typed the parameters and local objects, and how many calls stand before; the functions
-- and objects that are used; the lengths of arrays, the values of folded expressions and the labels of the text; and the
-- places of `sizeof` that depend on the alignment of `long long`.
pub record State : Type 0 where
  pub scope : Scope
  pub statics : List Static
  pub linkage : List Binding
  pub locals : List LocalEntry
  pub site : ℕ
  pub uses : List Use
  pub lengths : List ℕ
  pub constants : List ℤ
  pub labels : List ℤ
  pub sizes : List Place

-- ## Names

-- one more ordinary name in the present block
abbrev pub with_name : Name → Named → Scope → Scope
with_name n named scope = record scope { names = scope.names ++ record { name = n; named = named } ∷ [] }

-- one more tag in the present block
abbrev pub with_tag : Name → Tagged → Scope → Scope
with_tag n tagged scope = record scope { tags = scope.tags ++ record { name = n; tagged = tagged } ∷ [] }

-- a block begins: what is declared so far stands outside
abbrev pub entered : Scope → Scope
entered scope = record scope { outer_names = length scope.names; outer_tags = length scope.tags }

-- The names and tags of the present block are no longer visible; so many of them stand outside the block around it.
abbrev pub left_to : ℕ → ℕ → Scope → Scope
left_to outer_names outer_tags scope = record scope {
  names = take scope.outer_names scope.names;
  tags = take scope.outer_tags scope.tags;
  outer_names = outer_names;
  outer_tags = outer_tags;
}

-- A block ends, which began in the scope `before`. Types, structures and functions stay in their tables.
abbrev pub left : Scope → Scope → Scope
left before scope = left_to before.outer_names before.outer_tags scope

-- the state with another scope
abbrev pub in_scope : State → Scope → State
in_scope s scope = record s { scope = scope }

-- ## Objects of static storage

-- what stands in place of an object that there is not
abbrev pub no_static : Static
no_static = record {
  name = record { start = 0; length = 0 };
  place = record { line = 0; col = 0 };
  of = record { number = 0; constant = false; volatile = false };
  defined = false;
  initialised = false;
  given = [];
}

abbrev pub static : State → ℕ → Static
static s k = get_or s.statics k no_static

abbrev pub static_type : State → ℕ → Qualified
static_type s k = (static s k).of
