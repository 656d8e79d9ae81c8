-- Pointers, and the type names of casts and `sizeof` (C99 6.7.6).
use Rattle.std.specs.Prelude.{Bool, true, false, ◌&&◌, ◌||◌, not, List, [], ◌∷◌, Result, Ok, Err}
use Rattle.tm_trees.specs.tm_terms.declared.places.Place.{Place}
use Rattle.tm_trees.specs.tm_terms.declared.refusals.Refusal.{Refusal}
use Rattle.tm_trees.specs.tm_terms.declared.types_named.Spec.{Spec}
use Rattle.tm_trees.specs.tm_terms.declared.types_named.PointerWord.{PointerWord}
use Rattle.tm_trees.specs.tm_terms.declared.types_named.PointerWord.TheVariants as PointerWords
use Rattle.tm_trees.specs.tm_terms.ExprTrees.{TypeTree, Tree, a_name, an_integer, a_character, in_parentheses, an_input}
use Rattle.tm_trees.specs.tm_terms.ExprTrees.{an_islocked, a_call, a_prefix, a_sizeof_type, a_cast, an_infix}
use Rattle.tm_trees.specs.tm_terms.ExprTrees.{a_conditional, a_subscript, a_member, a_postfix, Arguments, no_arguments}
use Rattle.tm_trees.specs.tm_terms.ExprTrees.{and_argument}
use Rattle.tm_typed.specs.declared.types.Qualified.{Qualified}
use Rattle.tm_typed.specs.declared.types.CType.{CType}
use Rattle.tm_typed.specs.declared.types.CType.TheVariants as Types
use Rattle.tm_typed.specs.declared.specifiers.Said.{Said}
use Rattle.tm_typed.specs.declared.specifiers.Shape.{Shape}
use Rattle.tm_typed.specs.Scopes.{Scope, entry, ctype_of}
use Rattle.tm_typed.specs.TypeRows.{number_in, with_type}
use Rattle.tm_typed.specs.Specifiers.{nothing_said, plain, base, word_rules, mentioned}
use Rattle.tm_typed.specs.Refusals.{then_with}
use Rattle.tm_typed.specs.Rules.{CastType, is_volatile_pointer}

-- ## Kinds of types that are left out

abbrev pub is_void : CType → Bool
is_void Types.Void = true
is_void _ = false

-- a pointer to this type is left out: to `void`, or to a volatile pointer
abbrev pub is_no_target : Scope → Qualified → Bool
is_no_target scope q = is_void (ctype_of scope q.number) || is_volatile_pointer scope q

-- ## Pointers (C99 6.7.5.1)

-- a declarator of which nothing is read yet
abbrev pub bare : Qualified → Shape
bare q = record { of = q; is_open = false; left_out = false; mismatch = false }

-- a pointer to what was made so far, which may be no array without a length, in a scope that has its type
abbrev pub pointer_to : Scope → Shape → Shape
pointer_to scope shape = record {
  of = plain (number_in scope (Types.Pointer shape.of));
  is_open = false;
  left_out = shape.left_out || is_no_target scope shape.of;
  mismatch = shape.mismatch || shape.is_open;
}

-- a star, or a qualifier of the pointer before it; `restrict` says nothing
abbrev pub pointer_word : Scope → Shape → PointerWord → Shape
pointer_word scope shape PointerWords.Star = pointer_to scope shape
pointer_word scope shape PointerWords.Const = record shape { of = record shape.of { constant = true } }
pointer_word scope shape PointerWords.Volatile = record shape { of = record shape.of { volatile = true } }
pointer_word scope shape PointerWords.Restrict = shape

-- the scope with the type that the word makes
abbrev pub with_pointer_word : Scope → Shape → PointerWord → Scope
with_pointer_word scope shape PointerWords.Star = with_type scope (Types.Pointer shape.of)
with_pointer_word scope shape _ = scope

-- what is made so far, and the scope that has its types
abbrev pub Made : Type 0
Made = Shape × Scope

abbrev pub pointed : Made → List PointerWord → Made
pointed made [] = made
pointed made (w ∷ words) = let scope = with_pointer_word made.1 made.0 w in
    pointed (pointer_word scope made.0 w, scope) words

-- ## Type names

-- what specifiers say whose tags are declared
abbrev pub words_said : Scope → Said → List Spec → Result Said Refusal
words_said scope said [] = Ok said
words_said scope said (s ∷ specs) = then_with (word_rules scope said s.place s.word) (λ d. words_said scope d specs)

-- the tags that specifiers name first
abbrev pub all_mentioned : Scope → List Spec → Scope
all_mentioned scope [] = scope
all_mentioned scope (s ∷ specs) = all_mentioned (mentioned scope s.word) specs

-- in a scope that has the types
abbrev pub pointed_in : Scope → Shape → List PointerWord → Shape
pointed_in scope shape [] = shape
pointed_in scope shape (w ∷ words) = pointed_in scope (pointer_word scope shape w) words

-- one star without a qualifier
abbrev pub is_star : List PointerWord → Bool
is_star (PointerWords.Star ∷ []) = true
is_star _ = false

-- exactly `void *`
abbrev pub is_void_star : Scope → Qualified → List PointerWord → Bool
is_void_star scope q words = is_star words && is_void (ctype_of scope q.number) && not q.constant && not q.volatile

abbrev pub cast_type : Scope → Qualified → List PointerWord → CastType
cast_type scope q words = let shape = pointed_in scope (bare q) words in
    record {
      of = shape.of;
      is_void_pointer = is_void_star scope q words;
      is_left_out =
          shape.left_out || is_volatile_pointer scope shape.of;
    }

-- The type that a type name names, in a scope that is prepared for it.
abbrev pub type_of_name : Scope → TypeTree → Place → Result CastType Refusal
type_of_name scope n p =
    then_with (words_said scope nothing_said n.specs) (λ said. Ok (cast_type scope (base said) n.pointers))

-- ## What type names add to a scope

abbrev pub with_pointers : Scope → List PointerWord → Result Said Refusal → Scope
with_pointers scope words (Ok said) = (pointed (bare (base said), scope) words).1
with_pointers scope words (Err r) = scope

-- the tags that a type name names first, and the types of its stars
abbrev pub with_type_name : Scope → TypeTree → Scope
with_type_name scope n = let tags = all_mentioned scope n.specs in
    with_pointers tags n.pointers (words_said tags nothing_said n.specs)

-- A scope is prepared for an expression: the tags that its type names name first are declared at its beginning, in the
-- order of the text, and the table has the types that they name.
abbrev mutual
  pub prepared : Scope → Tree → Scope
  prepared scope (a_name n p) = scope
  prepared scope (an_integer c p) = scope
  prepared scope (a_character z p) = scope
  prepared scope (in_parentheses t) = prepared scope t
  prepared scope (an_input low high p) = prepared (prepared scope low) high
  prepared scope (an_islocked m q p) = scope
  prepared scope (a_call f args p) = all_prepared scope args
  prepared scope (a_prefix op t p) = prepared scope t
  prepared scope (a_sizeof_type n p) = with_type_name scope n
  prepared scope (a_cast n t p) = prepared (with_type_name scope n) t
  prepared scope (an_infix l op p r) = prepared (prepared scope l) r
  prepared scope (a_conditional c p x y) = prepared (prepared (prepared scope c) x) y
  prepared scope (a_subscript e p i) = prepared (prepared scope e) i
  prepared scope (a_member e access p m q) = prepared scope e
  prepared scope (a_postfix e op p) = prepared scope e

  pub all_prepared : Scope → Arguments → Scope
  all_prepared scope no_arguments = scope
  all_prepared scope (and_argument t args) = all_prepared (prepared scope t) args
