-- What specifiers, declarators and type names make of a scope.
use Rattle.std.proofs.Common.{◌≡◌, ℕ, ◌<◌, List, [], ◌∷◌, length, refl, sym, subst, ap, ◌∙◌, arith}
use Rattle.std.specs.Prelude.{Bool, true, false, cond, not, ◌||◌, All, take, drop, Option, Some, None, option_map, Result, Ok, Err}
use Rattle.std.proofs.lemmas.Bool.{or_parts, not-false, false≢true}
use Rattle.std.proofs.lemmas.List.Elements.{All-head, All-tail}
use Rattle.tm_laid.specs.tm_cint.declared.int_types.IntType.{IntType}
use Rattle.tm_laid.specs.tm_cint.declared.int_types.IntType.TheVariants as Ints
use Rattle.tm_laid.specs.tm_terms.declared.places.Place.{Place}
use Rattle.tm_laid.specs.tm_terms.declared.tokens.Name.{Name}
use Rattle.tm_laid.specs.tm_terms.declared.refusals.Refusal.{Refusal}
use Rattle.tm_laid.specs.tm_terms.declared.types_named.Spec.{Spec}
use Rattle.tm_laid.specs.tm_terms.declared.types_named.SpecWord.{SpecWord}
use Rattle.tm_laid.specs.tm_terms.declared.types_named.SpecWord.TheVariants as Specs
use Rattle.tm_laid.specs.tm_terms.declared.types_named.Qualifier.{Qualifier}
use Rattle.tm_laid.specs.tm_terms.declared.types_named.Qualifier.TheVariants as Qualifiers
use Rattle.tm_laid.specs.tm_terms.declared.types_named.Basic.{Basic}
use Rattle.tm_laid.specs.tm_terms.declared.types_named.Basic.TheVariants as Basics
use Rattle.tm_laid.specs.tm_terms.declared.types_named.TagKind.TheVariants as Tags
use Rattle.tm_laid.specs.tm_terms.declared.types_named.PointerWord.{PointerWord}
use Rattle.tm_laid.specs.tm_terms.declared.types_named.PointerWord.TheVariants as PointerWords
use Rattle.tm_laid.specs.tm_terms.Names.{is_same_name}
use Rattle.tm_laid.specs.tm_terms.ExprTrees.{TypeTree, Tree, a_name, an_integer, a_character, in_parentheses, an_input}
use Rattle.tm_laid.specs.tm_terms.ExprTrees.{an_islocked, a_call, a_prefix, a_sizeof_type, a_cast, an_infix}
use Rattle.tm_laid.specs.tm_terms.ExprTrees.{a_conditional, a_subscript, a_member, a_postfix, Arguments, no_arguments}
use Rattle.tm_laid.specs.tm_terms.ExprTrees.{and_argument}
use Rattle.tm_laid.specs.tm_trees.DeclarationTrees.{DeclaratorTree, a_declared_name, a_nested}
use Rattle.tm_laid.specs.tm_typed.declared.types.Qualified.{Qualified}
use Rattle.tm_laid.specs.tm_typed.declared.types.CType.{CType}
use Rattle.tm_laid.specs.tm_typed.declared.types.CType.TheVariants as Types
use Rattle.tm_laid.specs.tm_typed.declared.scopes.Binding.{Binding}
use Rattle.tm_laid.specs.tm_typed.declared.scopes.TagBinding.{TagBinding}
use Rattle.tm_laid.specs.tm_typed.declared.scopes.Named.{Named}
use Rattle.tm_laid.specs.tm_typed.declared.scopes.Named.TheVariants as Names
use Rattle.tm_laid.specs.tm_typed.declared.scopes.Tagged.{Tagged}
use Rattle.tm_laid.specs.tm_typed.declared.scopes.Tagged.TheVariants as Tagging
use Rattle.tm_laid.specs.tm_typed.declared.specifiers.Said.{Said}
use Rattle.tm_laid.specs.tm_typed.declared.specifiers.Shape.{Shape}
use Rattle.tm_laid.specs.tm_typed.Types.{void_number, int_number, enumeration_number}
use Rattle.tm_laid.specs.tm_typed.Scopes.{Scope, or_else, last_declared, named, tagged, is_complete}
use Rattle.tm_laid.specs.tm_typed.TypeRows.{with_type}
use Rattle.tm_laid.specs.tm_typed.Specifiers.{nothing_said, said_qualifier, said_basic, integer_said, type_said, base}
use Rattle.tm_laid.specs.tm_typed.Specifiers.{alias_rules, struct_rules, enum_rules, word_rules, mentioned}
use Rattle.tm_laid.specs.tm_typed.TypeNames.{bare, pointer_to, pointer_word, with_pointer_word, Made, pointed}
use Rattle.tm_laid.specs.tm_typed.TypeNames.{words_said, all_mentioned, with_pointers, with_type_name, prepared}
use Rattle.tm_laid.specs.tm_typed.TypeNames.{all_prepared}
use Rattle.tm_laid.specs.tm_typed.Declarators.{is_no_element, array_of, arrays_of, shaped}
use Rattle.tm_laid.specs.tm_typed.WellTyped.{OnAnswer}
use Rattle.typed_file_laws.specs.Tables.{IsType, IsTag, AreLawfulTables}
use Rattle.typing_laws.proofs.Steps.{then_on}
use Rattle.typed_file_laws.proofs.RuleSteps.{OnSome}
use Rattle.typed_file_laws.proofs.TableGrowth.{TablesGrow, type_stays}
use Rattle.typed_file_laws.proofs.TableRows.{Follows, follows_none, follows_on, type_follows, type_numbered}
use Rattle.typed_file_laws.proofs.TableStructures.{mentioned_follows}

-- ## What declarations say of a name

pub from_some : {A : Type 0} (P : A → Type 0) (o : Option A) (a : A) → OnSome P o → o ≡ Some a → P a
from_some {A} P o a h e = let Q : Option A → Type 0 = λ x. OnSome P x in subst Q e h

or_either : {A : Type 0} (P : A → Type 0) (a b : Option A) → OnSome P a → OnSome P b → OnSome P (or_else a b)
or_either P (Some x) b h k = h
or_either P None b h k = k

if_chosen : {A : Type 0} (P : A → Type 0) (b : Bool) (a : A) → P a → OnSome P (cond b (Some a) None)
if_chosen P true a h = h
if_chosen P false a h = tt

pub last_stands : {A : Type 0} (P : A → Type 0) (name : A → Name) (n : Name) (ds : List A) → All P ds → OnSome P (last_declared name n ds)
last_stands P name n [] h = tt
last_stands P name n (d ∷ ds) h = or_either P (last_declared name n ds) (cond (is_same_name (name d) n) (Some d) None)
    (last_stands P name n ds (All-tail P d ds h)) (if_chosen P (is_same_name (name d) n) d (All-head P d ds h))

pub some_map : {A B : Type 0} (P : B → Type 0) (f : A → B) (o : Option A) → OnSome (λ (a : A). P (f a)) o → OnSome P (option_map f o)
some_map P f None h = tt
some_map P f (Some a) h = h

pub named_stands : (P : Named → Type 0) (v : Scope) (n : Name) → All (λ (b : Binding). P b.named) v.names → OnSome P (named v n)
named_stands P v n h = some_map P (λ (b : Binding). b.named) (last_declared (λ (b : Binding). b.name) n v.names) (last_stands (λ (b : Binding). P b.named) (λ (b : Binding). b.name) n v.names h)

pub tagged_stands : (v : Scope) (n : Name) → AreLawfulTables v → OnSome (IsTag v) (tagged v n)
tagged_stands v n h = some_map (IsTag v) (λ (b : TagBinding). b.tagged) (last_declared (λ (b : TagBinding). b.name) n v.tags) (last_stands (λ (b : TagBinding). IsTag v b.tagged) (λ (b : TagBinding). b.name) n v.tags h.tags)

-- ## Specifiers

-- the name of a typedef names a type of the table
abbrev pub IsAliased : Scope → Named → Type 0
IsAliased v (Names.Alias q) = IsType v q.number
IsAliased v n = Unit {0}

abbrev pub AreAliased : Scope → Type 0
AreAliased v = (n : Name) → OnSome (IsAliased v) (named v n)

aliased_stays : (v w : Scope) → TablesGrow v w → (n : Named) → IsAliased v n → IsAliased w n
aliased_stays v w g (Names.Alias q) h = type_stays v w g q.number h
aliased_stays v w g (Names.Object o q) h = tt
aliased_stays v w g (Names.Function f) h = tt
aliased_stays v w g Names.Task h = tt
aliased_stays v w g (Names.Mutex m) h = tt
aliased_stays v w g (Names.Enumerator z) h = tt

some_weaker : {A : Type 0} (P Q : A → Type 0) (o : Option A) → ((a : A) → P a → Q a) → OnSome P o → OnSome Q o
some_weaker P Q None f h = tt
some_weaker P Q (Some a) f h = f a h

pub aliases_stay : (v w : Scope) → Follows v w → AreAliased v → AreAliased w
aliases_stay v w f h n =
    let P : List Binding → Type 0 = λ bs. OnSome (IsAliased w) (option_map (λ (b : Binding). b.named) (last_declared (λ (b : Binding). b.name) n bs)) in
    subst P (sym f.names) (some_weaker (IsAliased v) (IsAliased w) (named v n) (aliased_stays v w f.grown) (h n))

-- what is said of a type is said of one of the table
abbrev pub IsSaid : Scope → Said → Type 0
IsSaid v said = OnSome (λ (q : Qualified). IsType v q.number) said.declared

pub said_stays : (v w : Scope) → TablesGrow v w → (said : Said) → IsSaid v said → IsSaid w said
said_stays v w g said h = some_weaker (λ (q : Qualified). IsType v q.number) (λ (q : Qualified). IsType w q.number) said.declared (λ q. type_stays v w g q.number) h

pub int_basic : (t : IntType) → int_number t < 12
int_basic Ints.Bool = omega arith
int_basic Ints.Char = omega arith
int_basic Ints.UChar = omega arith
int_basic Ints.Short = omega arith
int_basic Ints.UShort = omega arith
int_basic Ints.Int = omega arith
int_basic Ints.UInt = omega arith
int_basic Ints.Long = omega arith
int_basic Ints.ULong = omega arith
int_basic Ints.LLong = omega arith
int_basic Ints.ULLong = omega arith

pub int_is_type : (v : Scope) → AreLawfulTables v → (t : IntType) → IsType v (int_number t)
int_is_type v h t = let b = h.basic in let l = int_basic t in omega (arith, b, l)

pub enumeration_is_type : (v : Scope) → AreLawfulTables v → (z : Bool) → IsType v (enumeration_number z)
enumeration_is_type v h true = let b = h.basic in omega (arith, b)
enumeration_is_type v h false = int_is_type v h Ints.Int

pub void_is_type : (v : Scope) → AreLawfulTables v → IsType v void_number
void_is_type v h = let b = h.basic in omega (arith, b)

basic_type : (v : Scope) → AreLawfulTables v → (b : Bool) (t : IntType) → IsType v (cond b void_number (int_number t))
basic_type v h true t = void_is_type v h
basic_type v h false t = int_is_type v h t

type_of_said : (v : Scope) → AreLawfulTables v → (said : Said) (o : Option Qualified) → OnSome (λ (q : Qualified). IsType v q.number) o → let q : Qualified = type_said said o in IsType v q.number
type_of_said v h said None k = basic_type v h said.void (integer_said said)
type_of_said v h said (Some q) k = k

pub base_type : (v : Scope) → AreLawfulTables v → (said : Said) → IsSaid v said → let q : Qualified = base said in IsType v q.number
base_type v h said k = type_of_said v h said said.declared k

said_qualifies : (v : Scope) (said : Said) (q : Qualifier) → IsSaid v said → IsSaid v (said_qualifier said q)
said_qualifies v said Qualifiers.Const h = h
said_qualifies v said Qualifiers.Volatile h = h
said_qualifies v said Qualifiers.Inline h = h
said_qualifies v said Qualifiers.Restrict h = h

said_basics : (v : Scope) (said : Said) (b : Basic) → IsSaid v said → IsSaid v (said_basic said b)
said_basics v said Basics.Void h = h
said_basics v said Basics.Bool h = h
said_basics v said Basics.Char h = h
said_basics v said Basics.Short h = h
said_basics v said Basics.Int h = h
said_basics v said Basics.Long h = h
said_basics v said Basics.Signed h = h
said_basics v said Basics.Unsigned h = h

alias_said : (v : Scope) (said : Said) (p : Place) (n : Option Named) → OnSome (IsAliased v) n → OnAnswer (IsSaid v) (alias_rules said p n)
alias_said v said p None h = tt
alias_said v said p (Some (Names.Alias q)) h = h
alias_said v said p (Some (Names.Object o q)) h = tt
alias_said v said p (Some (Names.Function f)) h = tt
alias_said v said p (Some Names.Task) h = tt
alias_said v said p (Some (Names.Mutex m)) h = tt
alias_said v said p (Some (Names.Enumerator z)) h = tt

struct_said : (v : Scope) → AreLawfulTables v → (said : Said) (p : Place) (t : Option Tagged) → OnSome (IsTag v) t → OnAnswer (IsSaid v) (struct_rules v said p t)
struct_said v h said p None k = tt
struct_said v h said p (Some (Tagging.Structure j)) k = h.numbers j k
struct_said v h said p (Some (Tagging.Enumeration z)) k = tt

enum_said : (v : Scope) → AreLawfulTables v → (said : Said) (p : Place) (t : Option Tagged) → OnAnswer (IsSaid v) (enum_rules said p t)
enum_said v h said p None = tt
enum_said v h said p (Some (Tagging.Structure j)) = tt
enum_said v h said p (Some (Tagging.Enumeration z)) = enumeration_is_type v h z

pub word_said : (v : Scope) → AreLawfulTables v → AreAliased v → (said : Said) (p : Place) (w : SpecWord) → IsSaid v said → OnAnswer (IsSaid v) (word_rules v said p w)
word_said v h a said p (Specs.Storage storage) k = k
word_said v h a said p (Specs.Qualifier q) k = said_qualifies v said q k
word_said v h a said p (Specs.Basic b) k = said_basics v said b k
word_said v h a said p (Specs.Alias n) k = alias_said v said p (named v n) (a n)
word_said v h a said p (Specs.Tagged Tags.Struct tag q) k = struct_said v h said q (tagged v tag) (tagged_stands v tag h)
word_said v h a said p (Specs.Tagged Tags.Enum tag q) k = enum_said v h said q (tagged v tag)

pub word_follows : (v : Scope) → AreLawfulTables v → (w : SpecWord) → Follows v (mentioned v w)
word_follows v h (Specs.Storage storage) = follows_none v h
word_follows v h (Specs.Qualifier q) = follows_none v h
word_follows v h (Specs.Basic b) = follows_none v h
word_follows v h (Specs.Alias n) = follows_none v h
word_follows v h (Specs.Tagged Tags.Struct tag q) = mentioned_follows v tag (tagged v tag) h
word_follows v h (Specs.Tagged Tags.Enum tag q) = follows_none v h

-- ## Declarators

-- Where nothing is amiss, the scope follows and what is made is a type of its table; an array without a length has elements of known size.
abbrev pub Makes : Scope → Made → Type 0
Makes v made = made.0.mismatch ≡ false → Follows v made.1 × IsType made.1 made.0.of.number × (made.0.is_open ≡ true → is_complete made.1 made.0.of.number ≡ true)

star_makes : (v scope : Scope) (shape : Shape) → Makes v (shape, scope) → Makes v (pointer_to (with_type scope (Types.Pointer shape.of)) shape, with_type scope (Types.Pointer shape.of))
star_makes v scope shape m e =
    let h = m (or_parts shape.mismatch shape.is_open e).0 in
    let t : CType = Types.Pointer shape.of in
    (follows_on v scope (with_type scope t) h.0 (type_follows scope t h.0.lawful h.1), type_numbered scope t h.0.lawful h.1, λ c. absurd (false≢true c))

word_makes : (v scope : Scope) (shape : Shape) (w : PointerWord) → Makes v (shape, scope) → Makes v (pointer_word (with_pointer_word scope shape w) shape w, with_pointer_word scope shape w)
word_makes v scope shape PointerWords.Star m = star_makes v scope shape m
word_makes v scope shape PointerWords.Const m = m
word_makes v scope shape PointerWords.Volatile m = m
word_makes v scope shape PointerWords.Restrict m = m

pub pointed_makes : (v : Scope) (made : Made) (ws : List PointerWord) → Makes v made → Makes v (pointed made ws)
pointed_makes v made [] m = m
pointed_makes v made (w ∷ ws) m =
    let scope : Scope = with_pointer_word made.1 made.0 w in
    pointed_makes v (pointer_word scope made.0 w, scope) ws (word_makes v made.1 made.0 w m)

-- what may stand in an array
element_parts : (scope : Scope) (shape : Shape) → is_no_element scope shape ≡ false → (shape.mismatch ≡ false) × (is_complete scope shape.of.number ≡ true)
element_parts scope shape e =
    let a = or_parts (shape.mismatch || shape.is_open) (not (is_complete scope shape.of.number)) e in
    ((or_parts shape.mismatch shape.is_open a.0).0, not-false (is_complete scope shape.of.number) a.1)

array_makes : (v : Scope) (made : Made) (n : Option ℕ) → Makes v made → Makes v (array_of made n)
array_makes v made None m e = let parts = element_parts made.1 made.0 e in let h = m parts.0 in (h.0, h.1, λ c. parts.1)
array_makes v made (Some n) m e =
    let parts = element_parts made.1 made.0 e in
    let h = m parts.0 in
    let t : CType = Types.Array made.0.of.number n in
    (follows_on v made.1 (with_type made.1 t) h.0 (type_follows made.1 t h.0.lawful parts.1), type_numbered made.1 t h.0.lawful parts.1, λ c. absurd (false≢true c))

arrays_make : (v : Scope) (made : Made) (ns : List (Option ℕ)) → Makes v made → Makes v (arrays_of made ns)
arrays_make v made [] m = m
arrays_make v made (n ∷ ns) m = arrays_make v (array_of made n) ns (array_makes v made n m)

pub shaped_makes : (v : Scope) (made : Made) (d : DeclaratorTree) (ns : List (Option ℕ)) → Makes v made → Makes v (shaped made d ns)
shaped_makes v made (a_declared_name pointers n p ls) ns m = arrays_make v (pointed made pointers) (take (length ls) ns) (pointed_makes v made pointers m)
shaped_makes v made (a_nested pointers d ls) ns m =
    shaped_makes v (arrays_of (pointed made pointers) (take (length ls) ns)) d (drop (length ls) ns)
    (arrays_make v (pointed made pointers) (take (length ls) ns) (pointed_makes v made pointers m))

pub bare_makes : (v : Scope) (q : Qualified) → AreLawfulTables v → IsType v q.number → Makes v (bare q, v)
bare_makes v q h t e = (follows_none v h, t, λ c. absurd (false≢true c))

-- ## Type names

-- stars alone are never amiss
abbrev IsSound : Shape → Type 0
IsSound shape = (shape.mismatch ≡ false) × (shape.is_open ≡ false)

word_sound : (scope : Scope) (shape : Shape) (w : PointerWord) → IsSound shape → IsSound (pointer_word scope shape w)
word_sound scope shape PointerWords.Star h = (ap (λ b. b || shape.is_open) h.0 ∙ h.1, refl)
word_sound scope shape PointerWords.Const h = h
word_sound scope shape PointerWords.Volatile h = h
word_sound scope shape PointerWords.Restrict h = h

pub stars_sound : (made : Made) (ws : List PointerWord) → IsSound made.0 → let m : Made = pointed made ws in IsSound m.0
stars_sound made [] h = h
stars_sound made (w ∷ ws) h =
    let scope : Scope = with_pointer_word made.1 made.0 w in
    stars_sound (pointer_word scope made.0 w, scope) ws (word_sound scope made.0 w h)

-- stars after a type
pub stars_make : (v : Scope) (q : Qualified) (ws : List PointerWord) → AreLawfulTables v → IsType v q.number
    → let m : Made = pointed (bare q, v) ws in Follows v m.1 × IsType m.1 m.0.of.number
stars_make v q ws h t = let a = pointed_makes v (bare q, v) ws (bare_makes v q h t) (stars_sound (bare q, v) ws (refl, refl)).0 in (a.0, a.1)

words_are_said : (v : Scope) → AreLawfulTables v → AreAliased v → (said : Said) (ws : List Spec) → IsSaid v said → OnAnswer (IsSaid v) (words_said v said ws)
words_are_said v h a said [] k = k
words_are_said v h a said (w ∷ ws) k =
    then_on (IsSaid v) (IsSaid v) (word_rules v said w.place w.word) (λ d. words_said v d ws) (word_said v h a said w.place w.word k) (λ d j. words_are_said v h a d ws j)

tags_follow : (v : Scope) → AreLawfulTables v → (ws : List Spec) → Follows v (all_mentioned v ws)
tags_follow v h [] = follows_none v h
tags_follow v h (w ∷ ws) = let f : Follows v (mentioned v w.word) = word_follows v h w.word in
    follows_on v (mentioned v w.word) (all_mentioned (mentioned v w.word) ws) f (tags_follow (mentioned v w.word) f.lawful ws)

pointers_follow : (v : Scope) (ws : List PointerWord) (r : Result Said Refusal) → AreLawfulTables v → OnAnswer (IsSaid v) r → Follows v (with_pointers v ws r)
pointers_follow v ws (Err e) h k = follows_none v h
pointers_follow v ws (Ok said) h k = (stars_make v (base said) ws h (base_type v h said k)).0

type_name_follows : (v : Scope) → AreLawfulTables v → AreAliased v → (n : TypeTree) → Follows v (with_type_name v n)
type_name_follows v h a n =
    let w : Scope = all_mentioned v n.specs in
    let f : Follows v w = tags_follow v h n.specs in
    follows_on v w (with_type_name v n) f
    (pointers_follow w n.pointers (words_said w nothing_said n.specs) f.lawful (words_are_said w f.lawful (aliases_stay v w f a) nothing_said n.specs tt))

-- ## Scopes that are prepared for expressions

both_follow : (u v w : Scope) → AreAliased u → Follows u v → ((f : Follows u v) → AreAliased v → Follows v w) → Follows u w
both_follow u v w a f k = follows_on u v w f (k f (aliases_stay u v f a))

mutual
  pub prepared_follows : (v : Scope) → AreLawfulTables v → AreAliased v → (t : Tree) → Follows v (prepared v t)
  prepared_follows v h a (a_name n p) = follows_none v h
  prepared_follows v h a (an_integer c p) = follows_none v h
  prepared_follows v h a (a_character z p) = follows_none v h
  prepared_follows v h a (in_parentheses t) = prepared_follows v h a t
  prepared_follows v h a (an_input low high p) =
      both_follow v (prepared v low) (prepared (prepared v low) high) a (prepared_follows v h a low) (λ f b. prepared_follows (prepared v low) f.lawful b high)
  prepared_follows v h a (an_islocked m q p) = follows_none v h
  prepared_follows v h a (a_call f args p) = all_follow v h a args
  prepared_follows v h a (a_prefix op t p) = prepared_follows v h a t
  prepared_follows v h a (a_sizeof_type n p) = type_name_follows v h a n
  prepared_follows v h a (a_cast n t p) =
      both_follow v (with_type_name v n) (prepared (with_type_name v n) t) a (type_name_follows v h a n) (λ f b. prepared_follows (with_type_name v n) f.lawful b t)
  prepared_follows v h a (an_infix l op p r) =
      both_follow v (prepared v l) (prepared (prepared v l) r) a (prepared_follows v h a l) (λ f b. prepared_follows (prepared v l) f.lawful b r)
  prepared_follows v h a (a_conditional c p x y) =
      both_follow v (prepared v c) (prepared (prepared (prepared v c) x) y) a (prepared_follows v h a c) (λ f b.
      both_follow (prepared v c) (prepared (prepared v c) x) (prepared (prepared (prepared v c) x) y) b (prepared_follows (prepared v c) f.lawful b x)
      (λ g d. prepared_follows (prepared (prepared v c) x) g.lawful d y))
  prepared_follows v h a (a_subscript e p i) =
      both_follow v (prepared v e) (prepared (prepared v e) i) a (prepared_follows v h a e) (λ f b. prepared_follows (prepared v e) f.lawful b i)
  prepared_follows v h a (a_member e access p m q) = prepared_follows v h a e
  prepared_follows v h a (a_postfix e op p) = prepared_follows v h a e

  all_follow : (v : Scope) → AreLawfulTables v → AreAliased v → (args : Arguments) → Follows v (all_prepared v args)
  all_follow v h a no_arguments = follows_none v h
  all_follow v h a (and_argument t args) =
      both_follow v (prepared v t) (all_prepared (prepared v t) args) a (prepared_follows v h a t) (λ f b. all_follow (prepared v t) f.lawful b args)
