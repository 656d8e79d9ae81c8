-- What the text alone leaves open: lines that are skipped, words that are ignored, and names of the library.
use Rattle.std.specs.Prelude.{◌≡◌, ◌↔◌, ◌⊎◌, ◌++◌, ◌<◌, ◌||◌, ℕ, Bool, true, false, cond, List, [], ◌∷◌}
use Rattle.std.specs.Prelude.{Contains, Some, None, is_some, Ok, codes, drop}
use Rattle.tm_terms.specs.declared.places.Place.{Place}
use Rattle.tm_terms.specs.declared.tokens.Name.{Name}
use Rattle.tm_terms.specs.declared.tokens.Piece.{Piece}
use Rattle.tm_terms.specs.declared.tokens.Token.{Token}
use Rattle.tm_terms.specs.declared.tokens.Shape.TheVariants as Shapes
use Rattle.tm_terms.specs.declared.tokens.Sign.TheVariants as Signs
use Rattle.tm_terms.specs.declared.tokens.Word.TheVariants as Words
use Rattle.tm_terms.specs.declared.types_named.Storage.{Storage}
use Rattle.tm_terms.specs.declared.types_named.Storage.TheVariants as Storages
use Rattle.tm_terms.specs.declared.types_named.SpecWord.{SpecWord}
use Rattle.tm_terms.specs.declared.types_named.SpecWord.TheVariants as Specs
use Rattle.tm_trees.specs.DeclarationTrees.{DeclaratorTree, a_declared_name, a_nested, declared_name, SpecifierTrees}
use Rattle.tm_trees.specs.DeclarationTrees.{no_specifiers, and_specifier, a_plain, InitDeclaratorTree}
use Rattle.tm_trees.specs.FileTrees.{ItemTree, a_declaration, a_function, an_empty_item, a_mutex, a_task}
use Rattle.tm_trees.specs.Parsing.{Parses}
use Rattle.text_choices.specs.Library.{library}
use Rattle.tm_terms.specs.Lexis.{begins, front, behind, is_name_byte, is_blank_in_line}
use Rattle.tm_terms.specs.Spelling.{Lexes, Reading, reading, text_of}
use Rattle.tm_terms.specs.Limits.{most_tokens}

-- PRAGMA (C99 6.10.6): where a reading of the source stands, a line with the word `pragma` is skipped
pub record IsPragma (bytes : List ℕ) (place : Place) : Type 0 where
  pub pieces : ℕ
  pub at : Reading
  pub reads : reading bytes pieces ≡ Some at
  pub is : at.place ≡ place
  pub piece : Piece
  pub begun : begins at.at at.bare (drop at.at bytes) ≡ Some piece
  pub skipped : piece.shape ≡ None
  pub rest : List ℕ
  pub sign : drop at.at bytes ≡ 35 ∷ rest
  pub word : front is_name_byte (behind is_blank_in_line rest) ≡ codes "pragma"

-- the signs `(` of a source stand at these places
abbrev pub AreOpens : List ℕ → List Place → Type 0
AreOpens bytes places = (tokens : List Token) → Lexes most_tokens bytes (Ok tokens) → (place : Place) → Contains places place
    ↔ Contains tokens (record { shape = Shapes.Sign Signs.OpenParenthesis; place = place })

-- RESTRICT (C99 6.7.3.1): the word stands among the tokens
pub record IsRestricted (bytes : List ℕ) (place : Place) : Type 0 where
  pub tokens : List Token
  pub lexed : Lexes most_tokens bytes (Ok tokens)
  pub stands : Contains tokens (record { shape = Shapes.Word Words.Restrict; place = place })

-- ## RESERVED (C99 7.1.3p1)

-- a declaration of a function, a task or an object at the level of the file
pub record Declared : Type 0 where
  pub name : Name
  pub place : Place
  pub defined : Bool
  pub internal : Bool

-- one place comes before another one
abbrev pub IsPlaceBefore : Place → Place → Type 0
IsPlaceBefore p q = (p.line < q.line) ⊎ ((p.line ≡ q.line) × (p.col < q.col))

abbrev pub is_storage : Storage → SpecWord → Bool
is_storage Storages.Static (Specs.Storage Storages.Static) = true
is_storage Storages.Typedef (Specs.Storage Storages.Typedef) = true
is_storage s w = false

abbrev pub has_storage : Storage → SpecifierTrees → Bool
has_storage s no_specifiers = false
has_storage s (and_specifier (a_plain spec) rest) = is_storage s spec.word || has_storage s rest
has_storage s (and_specifier _ rest) = has_storage s rest

abbrev pub declarator_place : DeclaratorTree → Place
declarator_place (a_declared_name pointers n p lengths) = p
declarator_place (a_nested pointers d lengths) = declarator_place d

abbrev pub objects_of : Bool → List InitDeclaratorTree → List Declared
objects_of internal [] = []
objects_of internal (d ∷ ds) = record {
  name = declared_name d.declarator;
  place = declarator_place d.declarator;
  defined = true;
  internal = internal;
} ∷ objects_of internal ds

abbrev pub declared_by : ItemTree → List Declared
declared_by (a_declaration d) =
    cond (has_storage Storages.Typedef d.specifiers) []
    (objects_of (has_storage Storages.Static d.specifiers) d.declarators)
declared_by (a_function f) = record {
  name = f.name;
  place = f.place;
  defined = is_some f.body;
  internal = has_storage Storages.Static f.specifiers;
} ∷ []
declared_by an_empty_item = []
declared_by (a_mutex n p) = []
declared_by (a_task t n q parts p) = record { name = n; place = q; defined = true; internal = false } ∷ []

abbrev pub declared_in : List ItemTree → List Declared
declared_in [] = []
declared_in (i ∷ items) = declared_by i ++ declared_in items

-- a name that compilers take as one of their own
pub data IsReservedName (text : List ℕ) : Type 0 where
  of_library : Contains library text → IsReservedName text
  builtin : (rest : List ℕ) → text ≡ codes "__builtin_" ++ rest → IsReservedName text
  synchronised : (rest : List ℕ) → text ≡ codes "__sync_" ++ rest → IsReservedName text
  atomic : (rest : List ℕ) → text ≡ codes "__atomic_" ++ rest → IsReservedName text

-- Where such a name of external linkage (C99 6.2.2p3) is defined, or else where it is first declared. An object counts
-- as defined where it is declared.
pub record IsReserved (bytes : List ℕ) (place : Place) : Type 0 where
  pub tokens : List Token
  pub lexed : Lexes most_tokens bytes (Ok tokens)
  pub items : List ItemTree
  pub parsed : Parses tokens (Ok items)
  pub it : Declared
  pub stands : Contains (declared_in items) it
  pub is : it.place ≡ place
  pub named : IsReservedName (text_of bytes it.name)
  pub external : (d : Declared) → Contains (declared_in items) d → d.name ≡ it.name → d.internal ≡ false
  pub first : (d : Declared) → Contains (declared_in items) d → d.name ≡ it.name
      → (d.defined ≡ it.defined) → (d ≡ it) ⊎ IsPlaceBefore it.place d.place
  pub foremost : (d : Declared) → Contains (declared_in items) d → d.name ≡ it.name → d.defined ≡ true
      → it.defined ≡ true
