-- What type names, specifiers and declarators add to a scope: types, structures and tags, but neither names nor functions.
use Rattle.std.proofs.Common.{◌≡◌, refl, ◌∙◌, List, [], ◌∷◌}
use Rattle.std.specs.Prelude.{Bool, true, false, cond, ◌++◌, length, Option, Some, None, Result, Ok, Err}
use Rattle.tm_typed.specs.tm_terms.declared.tokens.Name.{Name}
use Rattle.tm_typed.specs.tm_terms.declared.refusals.Refusal.{Refusal}
use Rattle.tm_typed.specs.tm_terms.declared.types_named.PointerWord.{PointerWord}
use Rattle.tm_typed.specs.tm_terms.declared.types_named.PointerWord.TheVariants as PointerWords
use Rattle.tm_typed.specs.tm_terms.declared.types_named.Spec.{Spec}
use Rattle.tm_typed.specs.tm_terms.declared.types_named.SpecWord.{SpecWord}
use Rattle.tm_typed.specs.tm_terms.declared.types_named.SpecWord.TheVariants as Specs
use Rattle.tm_typed.specs.tm_terms.declared.types_named.TagKind.TheVariants as Tags
use Rattle.tm_typed.specs.tm_terms.ExprTrees.{TypeTree, Tree, a_name, an_integer, a_character, in_parentheses, an_input}
use Rattle.tm_typed.specs.tm_terms.ExprTrees.{an_islocked, a_call, a_prefix, a_sizeof_type, a_cast, an_infix}
use Rattle.tm_typed.specs.tm_terms.ExprTrees.{a_conditional, a_subscript, a_member, a_postfix, Arguments, no_arguments}
use Rattle.tm_typed.specs.tm_terms.ExprTrees.{and_argument}
use Rattle.tm_typed.specs.declared.types.CType.{CType}
use Rattle.tm_typed.specs.declared.types.CType.TheVariants as Types
use Rattle.tm_typed.specs.declared.scopes.Tagged.{Tagged}
use Rattle.tm_typed.specs.declared.scopes.Tagged.TheVariants as Tagging
use Rattle.tm_typed.specs.declared.specifiers.Said.{Said}
use Rattle.tm_typed.specs.declared.specifiers.Shape.{Shape}
use Rattle.tm_typed.specs.Scopes.{Scope, tagged, no_structure}
use Rattle.tm_typed.specs.States.{with_tag}
use Rattle.tm_typed.specs.TypeRows.{is_founded, number_in, row_in, apart_from_const, with_row, with_type}
use Rattle.tm_typed.specs.Specifiers.{base, nothing_said, new_structure, with_struct_tag, mentioned_tag, mentioned}
use Rattle.tm_typed.specs.TypeNames.{Made, bare, pointer_word, with_pointer_word, pointed, words_said, all_mentioned, with_pointers, with_type_name, prepared, all_prepared}
use Rattle.tm_typed.specs.Declarators.{array_of, arrays_of, shaped, whole}
use Rattle.tm_typed.specs.tm_trees.DeclarationTrees.{DeclaratorTree, a_declared_name, a_nested}
use Rattle.std.specs.Prelude.{ℕ, take, drop}

-- the same names and functions
pub record SameNames (a b : Scope) : Type 0 where
  pub names : b.names ≡ a.names
  pub functions : b.functions ≡ a.functions

pub same : (a : Scope) → SameNames a a
same a = record { names = refl; functions = refl }

pub same_then : (a b c : Scope) → SameNames a b → SameNames b c → SameNames a c
same_then a b c h k = record { names = k.names ∙ h.names; functions = k.functions ∙ h.functions }

same_unless : (b : Bool) (scope new : Scope) → SameNames scope new → SameNames scope (cond b new scope)
same_unless true scope new h = h
same_unless false scope new h = same scope

-- ## Types

row_same : (scope : Scope) (t : CType) → SameNames scope (with_row scope t)
row_same scope t = same_unless _ scope (record scope { types = scope.types ++ row_in scope t ∷ [] }) (record { names = refl; functions = refl })

pub type_same : (scope : Scope) (t : CType) → SameNames scope (with_type scope t)
type_same scope t =
    let apart = with_row scope (apart_from_const scope.types t) in
    same_then scope apart (with_row apart t) (row_same scope (apart_from_const scope.types t)) (row_same apart t)

-- ## Tags

pub structure_same : (scope : Scope) → SameNames scope (new_structure scope)
structure_same scope =
    let more : Scope = record scope { structs = scope.structs ++ no_structure ∷ [] } in
    let h = type_same more (Types.Struct (length scope.structs)) in
    record { names = h.names; functions = h.functions }

pub struct_tag_same : (tag : Name) (scope : Scope) → SameNames scope (with_struct_tag tag scope)
struct_tag_same tag scope = let h = structure_same (with_tag tag (Tagging.Structure (length scope.structs)) scope) in record { names = h.names; functions = h.functions }

mentioned_tag_same : (scope : Scope) (tag : Name) (t : Option Tagged) → SameNames scope (mentioned_tag scope tag t)
mentioned_tag_same scope tag None = struct_tag_same tag scope
mentioned_tag_same scope tag (Some t) = same scope

pub mentioned_same : (scope : Scope) (w : SpecWord) → SameNames scope (mentioned scope w)
mentioned_same scope (Specs.Tagged Tags.Struct tag q) = mentioned_tag_same scope tag (tagged scope tag)
mentioned_same scope (Specs.Tagged Tags.Enum tag q) = same scope
mentioned_same scope (Specs.Storage s) = same scope
mentioned_same scope (Specs.Qualifier q) = same scope
mentioned_same scope (Specs.Basic b) = same scope
mentioned_same scope (Specs.Alias n) = same scope

all_mentioned_same : (scope : Scope) (specs : List Spec) → SameNames scope (all_mentioned scope specs)
all_mentioned_same scope [] = same scope
all_mentioned_same scope (s ∷ specs) =
    let next = mentioned scope s.word in
    same_then scope next (all_mentioned next specs) (mentioned_same scope s.word) (all_mentioned_same next specs)

-- ## Pointers and arrays

word_same : (scope : Scope) (shape : Shape) (w : PointerWord) → SameNames scope (with_pointer_word scope shape w)
word_same scope shape PointerWords.Star = type_same scope (Types.Pointer shape.of)
word_same scope shape PointerWords.Const = same scope
word_same scope shape PointerWords.Volatile = same scope
word_same scope shape PointerWords.Restrict = same scope

pub pointed_same : (shape : Shape) (scope : Scope) (words : List PointerWord) → SameNames scope (pointed (shape, scope) words).1
pointed_same shape scope [] = same scope
pointed_same shape scope (w ∷ words) =
    let next = with_pointer_word scope shape w in
    same_then scope next (pointed (pointer_word next shape w, next) words).1 (word_same scope shape w) (pointed_same (pointer_word next shape w) next words)

array_same : (shape : Shape) (scope : Scope) (n : Option ℕ) → SameNames scope (array_of (shape, scope) n).1
array_same shape scope None = same scope
array_same shape scope (Some n) = type_same scope (Types.Array shape.of.number n)

arrays_same : (made : Made) (lengths : List (Option ℕ)) → SameNames made.1 (arrays_of made lengths).1
arrays_same made [] = same made.1
arrays_same made (n ∷ lengths) =
    let next = array_of made n in
    same_then made.1 next.1 (arrays_of next lengths).1 (array_same made.0 made.1 n) (arrays_same next lengths)

pub shaped_same : (made : Made) (d : DeclaratorTree) (lengths : List (Option ℕ)) → SameNames made.1 (shaped made d lengths).1
shaped_same made (a_declared_name pointers n p ls) lengths =
    let next = pointed made pointers in
    same_then made.1 next.1 (arrays_of next (take (length ls) lengths)).1 (pointed_same made.0 made.1 pointers) (arrays_same next (take (length ls) lengths))
shaped_same made (a_nested pointers d ls) lengths =
    let next = pointed made pointers in
    let last = arrays_of next (take (length ls) lengths) in
    same_then made.1 last.1 (shaped last d (drop (length ls) lengths)).1
    (same_then made.1 next.1 last.1 (pointed_same made.0 made.1 pointers) (arrays_same next (take (length ls) lengths)))
    (shaped_same last d (drop (length ls) lengths))

-- ## Type names

pointers_same : (scope : Scope) (words : List PointerWord) (r : Result Said Refusal) → SameNames scope (with_pointers scope words r)
pointers_same scope words (Ok said) = pointed_same (bare (base said)) scope words
pointers_same scope words (Err r) = same scope

type_name_same : (scope : Scope) (n : TypeTree) → SameNames scope (with_type_name scope n)
type_name_same scope n =
    let tags = all_mentioned scope n.specs in
    let said = words_said tags nothing_said n.specs in
    same_then scope tags (with_pointers tags n.pointers said) (all_mentioned_same scope n.specs) (pointers_same tags n.pointers said)

mutual
  pub prepared_same : (scope : Scope) (t : Tree) → SameNames scope (prepared scope t)
  prepared_same scope (a_name n p) = same scope
  prepared_same scope (an_integer c p) = same scope
  prepared_same scope (a_character z p) = same scope
  prepared_same scope (in_parentheses t) = prepared_same scope t
  prepared_same scope (an_input low high p) = same_then scope (prepared scope low) _ (prepared_same scope low) (prepared_same (prepared scope low) high)
  prepared_same scope (an_islocked m q p) = same scope
  prepared_same scope (a_call f args p) = all_prepared_same scope args
  prepared_same scope (a_prefix op t p) = prepared_same scope t
  prepared_same scope (a_sizeof_type n p) = type_name_same scope n
  prepared_same scope (a_cast n t p) = same_then scope (with_type_name scope n) _ (type_name_same scope n) (prepared_same (with_type_name scope n) t)
  prepared_same scope (an_infix l op p r) = same_then scope (prepared scope l) _ (prepared_same scope l) (prepared_same (prepared scope l) r)
  prepared_same scope (a_conditional c p x y) =
      same_then scope (prepared scope c) _ (prepared_same scope c)
      (same_then (prepared scope c) (prepared (prepared scope c) x) _ (prepared_same (prepared scope c) x) (prepared_same (prepared (prepared scope c) x) y))
  prepared_same scope (a_subscript e p i) = same_then scope (prepared scope e) _ (prepared_same scope e) (prepared_same (prepared scope e) i)
  prepared_same scope (a_member e access p m q) = prepared_same scope e
  prepared_same scope (a_postfix e op p) = prepared_same scope e

  all_prepared_same : (scope : Scope) (args : Arguments) → SameNames scope (all_prepared scope args)
  all_prepared_same scope no_arguments = same scope
  all_prepared_same scope (and_argument t args) = same_then scope (prepared scope t) _ (prepared_same scope t) (all_prepared_same (prepared scope t) args)
