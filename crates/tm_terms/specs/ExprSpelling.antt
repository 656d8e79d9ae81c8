-- The grammar of expressions: which tokens spell which tree (C99 6.5, cut to the profile).
-- Each relation says that the tokens `ts` begin with something, and that `rest` follows it.
use Rattle.std.specs.Prelude.{◌≡◌, ℕ, ◌+◌, ◌≤◌, ◌<◌, Bool, true, false, ◌||◌, ◌&&◌, ◌==◌, nat_le, List, [], ◌∷◌, length}
use Rattle.std.specs.Prelude.{Option, Some, None, IsTrue, MatchOption, count_by, ◌⊎◌}
use Rattle.tm_terms.specs.declared.places.Place.{Place}
use Rattle.tm_terms.specs.declared.tokens.Name.{Name}
use Rattle.tm_terms.specs.declared.tokens.Word.{Word}
use Rattle.tm_terms.specs.declared.tokens.Word.TheVariants as Words
use Rattle.tm_terms.specs.declared.tokens.Sign.{Sign}
use Rattle.tm_terms.specs.declared.tokens.Sign.TheVariants as Signs
use Rattle.tm_terms.specs.declared.tokens.Shape.{Shape}
use Rattle.tm_terms.specs.declared.tokens.Shape.TheVariants as Shapes
use Rattle.tm_terms.specs.declared.tokens.Token.{Token}
use Rattle.tm_terms.specs.declared.types_named.Spec.{Spec}
use Rattle.tm_terms.specs.declared.types_named.SpecWord.{SpecWord}
use Rattle.tm_terms.specs.declared.types_named.SpecWord.TheVariants as Specs
use Rattle.tm_terms.specs.declared.types_named.Storage.TheVariants as Storages
use Rattle.tm_terms.specs.declared.types_named.Qualifier.TheVariants as Qualifiers
use Rattle.tm_terms.specs.declared.types_named.Basic.{Basic}
use Rattle.tm_terms.specs.declared.types_named.Basic.TheVariants as Basics
use Rattle.tm_terms.specs.declared.types_named.TagKind.{TagKind}
use Rattle.tm_terms.specs.declared.types_named.TagKind.TheVariants as Tags
use Rattle.tm_terms.specs.declared.types_named.PointerWord.{PointerWord}
use Rattle.tm_terms.specs.declared.types_named.PointerWord.TheVariants as Pointers
use Rattle.tm_terms.specs.declared.exprs.Binary.TheVariants as Binaries
use Rattle.tm_terms.specs.declared.exprs.Infix.{Infix}
use Rattle.tm_terms.specs.declared.exprs.Infix.TheVariants.{Comma, Assign, AssignBy, Binary as ByBinary}
use Rattle.tm_terms.specs.declared.exprs.Prefix.{Prefix}
use Rattle.tm_terms.specs.declared.exprs.Prefix.TheVariants as Prefixes
use Rattle.tm_terms.specs.declared.exprs.Postfix.{Postfix}
use Rattle.tm_terms.specs.declared.exprs.Postfix.TheVariants as Postfixes
use Rattle.tm_terms.specs.declared.exprs.Access.{Access}
use Rattle.tm_terms.specs.declared.exprs.Access.TheVariants as Accesses
use Rattle.tm_terms.specs.declared.exprs.Level.TheVariants as Levels
use Rattle.tm_terms.specs.Names.{is_typedef}
use Rattle.tm_terms.specs.ExprTrees.{TypeTree, Tree, a_name, an_integer, a_character, in_parentheses, an_input}
use Rattle.tm_terms.specs.ExprTrees.{an_islocked, a_call, a_prefix, a_sizeof_type, a_cast, an_infix, a_conditional}
use Rattle.tm_terms.specs.ExprTrees.{a_subscript, a_member, a_postfix, Arguments, no_arguments, and_argument, rank}
use Rattle.tm_terms.specs.ExprTrees.{infix_level, left_level, right_level, operand_level, level, height}

-- the first token has this shape and place
abbrev pub Begins : Shape → Place → List Token → List Token → Type 0
Begins shape place ts rest = ts ≡ (record { shape = shape; place = place }) ∷ rest

-- the first token is this sign, at some place
abbrev pub BySign : Sign → List Token → List Token → Type 0
BySign sign ts rest = (place : Place) × Begins (Shapes.Sign sign) place ts rest

-- the first token is a name that no typedef has declared
abbrev pub ByName : List Name → Name → Place → List Token → List Token → Type 0
ByName types name place ts rest = (is_typedef types name ≡ false) × Begins (Shapes.Name name) place ts rest

-- the operator between two operands that a sign stands for
abbrev pub infix_of : Sign → Option Infix
infix_of Signs.Comma = Some Comma
infix_of Signs.Equal = Some Assign
infix_of Signs.StarEqual = Some (AssignBy Binaries.Multiply)
infix_of Signs.SlashEqual = Some (AssignBy Binaries.Divide)
infix_of Signs.PercentEqual = Some (AssignBy Binaries.Remainder)
infix_of Signs.PlusEqual = Some (AssignBy Binaries.Add)
infix_of Signs.MinusEqual = Some (AssignBy Binaries.Subtract)
infix_of Signs.ShiftLeftEqual = Some (AssignBy Binaries.ShiftLeft)
infix_of Signs.ShiftRightEqual = Some (AssignBy Binaries.ShiftRight)
infix_of Signs.AndEqual = Some (AssignBy Binaries.BitAnd)
infix_of Signs.CaretEqual = Some (AssignBy Binaries.BitXor)
infix_of Signs.OrEqual = Some (AssignBy Binaries.BitOr)
infix_of Signs.Star = Some (ByBinary Binaries.Multiply)
infix_of Signs.Slash = Some (ByBinary Binaries.Divide)
infix_of Signs.Percent = Some (ByBinary Binaries.Remainder)
infix_of Signs.Plus = Some (ByBinary Binaries.Add)
infix_of Signs.Minus = Some (ByBinary Binaries.Subtract)
infix_of Signs.ShiftLeft = Some (ByBinary Binaries.ShiftLeft)
infix_of Signs.ShiftRight = Some (ByBinary Binaries.ShiftRight)
infix_of Signs.Less = Some (ByBinary Binaries.Less)
infix_of Signs.Greater = Some (ByBinary Binaries.Greater)
infix_of Signs.LessEqual = Some (ByBinary Binaries.LessEqual)
infix_of Signs.GreaterEqual = Some (ByBinary Binaries.GreaterEqual)
infix_of Signs.EqualEqual = Some (ByBinary Binaries.Equal)
infix_of Signs.NotEqual = Some (ByBinary Binaries.NotEqual)
infix_of Signs.And = Some (ByBinary Binaries.BitAnd)
infix_of Signs.Caret = Some (ByBinary Binaries.BitXor)
infix_of Signs.Or = Some (ByBinary Binaries.BitOr)
infix_of Signs.AndAnd = Some (ByBinary Binaries.And)
infix_of Signs.OrOr = Some (ByBinary Binaries.Or)
infix_of _ = None

-- the operator before an operand that a sign stands for
abbrev pub prefix_of : Sign → Option Prefix
prefix_of Signs.PlusPlus = Some Prefixes.Increment
prefix_of Signs.MinusMinus = Some Prefixes.Decrement
prefix_of Signs.And = Some Prefixes.Address
prefix_of Signs.Star = Some Prefixes.Dereference
prefix_of Signs.Plus = Some Prefixes.Plus
prefix_of Signs.Minus = Some Prefixes.Minus
prefix_of Signs.Tilde = Some Prefixes.Complement
prefix_of Signs.Not = Some Prefixes.Not
prefix_of _ = None

-- the sign of an operator after its operand
abbrev pub postfix_sign : Postfix → Sign
postfix_sign Postfixes.Increment = Signs.PlusPlus
postfix_sign Postfixes.Decrement = Signs.MinusMinus

-- the sign before a member's name
abbrev pub access_sign : Access → Sign
access_sign Accesses.Dot = Signs.Dot
access_sign Accesses.Arrow = Signs.Arrow

-- the first token is this operator before an operand: a sign, or the word `sizeof`
abbrev pub ByPrefix : Prefix → Place → List Token → List Token → Type 0
ByPrefix Prefixes.Sizeof place ts rest = Begins (Shapes.Word Words.Sizeof) place ts rest
ByPrefix op place ts rest = (sign : Sign) × (prefix_of sign ≡ Some op) × Begins (Shapes.Sign sign) place ts rest

-- the specifier that a word of the language stands for by itself
abbrev pub spec_of : Word → Option SpecWord
spec_of Words.Static = Some (Specs.Storage Storages.Static)
spec_of Words.Extern = Some (Specs.Storage Storages.Extern)
spec_of Words.Register = Some (Specs.Storage Storages.Register)
spec_of Words.Auto = Some (Specs.Storage Storages.Auto)
spec_of Words.Typedef = Some (Specs.Storage Storages.Typedef)
spec_of Words.Inline = Some (Specs.Qualifier Qualifiers.Inline)
spec_of Words.Const = Some (Specs.Qualifier Qualifiers.Const)
spec_of Words.Volatile = Some (Specs.Qualifier Qualifiers.Volatile)
spec_of Words.Restrict = Some (Specs.Qualifier Qualifiers.Restrict)
spec_of Words.Void = Some (Specs.Basic Basics.Void)
spec_of Words.Bool = Some (Specs.Basic Basics.Bool)
spec_of Words.Char = Some (Specs.Basic Basics.Char)
spec_of Words.Short = Some (Specs.Basic Basics.Short)
spec_of Words.Int = Some (Specs.Basic Basics.Int)
spec_of Words.Long = Some (Specs.Basic Basics.Long)
spec_of Words.Signed = Some (Specs.Basic Basics.Signed)
spec_of Words.Unsigned = Some (Specs.Basic Basics.Unsigned)
spec_of _ = None

-- the word before a tag
abbrev pub tag_word : TagKind → Word
tag_word Tags.Struct = Words.Struct
tag_word Tags.Enum = Words.Enum

-- the specifier says what type is meant: it is neither a storage word nor a qualifier
abbrev pub is_type_spec : SpecWord → Bool
is_type_spec (Specs.Storage s) = false
is_type_spec (Specs.Qualifier q) = false
is_type_spec (Specs.Basic b) = true
is_type_spec (Specs.Tagged kind tag place) = true
is_type_spec (Specs.Alias n) = true

-- One specifier. A tag may be any name. The name of a typedef is a specifier only where no type stands
-- before it in the same list, as `seen` tells.
abbrev pub SpellsSpec : List Name → Bool → SpecWord → Place → List Token → List Token → Type 0
SpellsSpec types seen (Specs.Tagged kind tag tag_place) place ts rest =
    (mid : List Token) × Begins (Shapes.Word (tag_word kind)) place ts mid × Begins (Shapes.Name tag) tag_place mid rest
SpellsSpec types seen (Specs.Alias n) place ts rest =
    (seen ≡ false) × (is_typedef types n ≡ true) × Begins (Shapes.Name n) place ts rest
SpellsSpec types seen word place ts rest =
    (w : Word) × (spec_of w ≡ Some word) × Begins (Shapes.Word w) place ts rest

-- specifiers in any order
abbrev pub SpellsSpecs : List Name → Bool → List Spec → List Token → List Token → Type 0
SpellsSpecs types seen [] ts rest = ts ≡ rest
SpellsSpecs types seen (s ∷ specs) ts rest =
    (mid : List Token) × SpellsSpec types seen s.word s.place ts mid
    × SpellsSpecs types (seen || is_type_spec s.word) specs mid rest

-- a specifier is this type word
abbrev pub is_basic : Basic → SpecWord → Bool
is_basic Basics.Void (Specs.Basic Basics.Void) = true
is_basic Basics.Bool (Specs.Basic Basics.Bool) = true
is_basic Basics.Char (Specs.Basic Basics.Char) = true
is_basic Basics.Short (Specs.Basic Basics.Short) = true
is_basic Basics.Int (Specs.Basic Basics.Int) = true
is_basic Basics.Long (Specs.Basic Basics.Long) = true
is_basic Basics.Signed (Specs.Basic Basics.Signed) = true
is_basic Basics.Unsigned (Specs.Basic Basics.Unsigned) = true
is_basic _ _ = false

-- a specifier is a type word that makes a type alone
abbrev pub is_lone : SpecWord → Bool
is_lone (Specs.Basic Basics.Void) = true
is_lone (Specs.Basic Basics.Bool) = true
is_lone _ = false

-- a specifier is a storage word, or the one of typedefs
abbrev pub is_storage : SpecWord → Bool
is_storage (Specs.Storage s) = true
is_storage _ = false

abbrev pub is_typedef_word : SpecWord → Bool
is_typedef_word (Specs.Storage Storages.Typedef) = true
is_typedef_word _ = false

-- a specifier is a structure, an enumeration, or the name of a typedef
abbrev pub is_declared_type : SpecWord → Bool
is_declared_type (Specs.Tagged kind tag place) = true
is_declared_type (Specs.Alias n) = true
is_declared_type _ = false

-- how many specifiers pass a test
abbrev pub many : (SpecWord → Bool) → List Spec → ℕ
many test specs = count_by (λ s. test s.word) specs

-- the type words are one of the lists of C99 6.7.2: those of `char`, of `short`, and of `int`, `long`, `long long`
abbrev pub is_integer_list : ℕ → ℕ → ℕ → ℕ → ℕ → Bool
is_integer_list chars shorts ints longs signs =
    nat_le signs 1 && (((chars == 1) && (shorts == 0) && (ints == 0) && (longs == 0))
    || ((chars == 0) && (shorts == 1) && nat_le ints 1 && (longs == 0))
    || ((chars == 0) && (shorts == 0) && nat_le ints 1 && nat_le longs 2 && nat_le 1 (ints + longs + signs)))

-- exactly one type is named: `void`, `_Bool`, a list of type words, a structure, an enumeration, or a typedef's name
abbrev pub is_type_list : List Spec → Bool
is_type_list specs =
    let basics =
    many (is_basic Basics.Char) specs + many (is_basic Basics.Short) specs + many (is_basic Basics.Int) specs
    + many (is_basic Basics.Long) specs + many (is_basic Basics.Signed) specs + many (is_basic Basics.Unsigned) specs in
    ((many is_declared_type specs + many is_lone specs == 1) && (basics == 0))
    || ((many is_declared_type specs + many is_lone specs == 0)
    && is_integer_list (many (is_basic Basics.Char) specs) (many (is_basic Basics.Short) specs)
    (many (is_basic Basics.Int) specs) (many (is_basic Basics.Long) specs)
    (many (is_basic Basics.Signed) specs + many (is_basic Basics.Unsigned) specs))

-- the specifiers of a type name: one type, at most one storage word, and no `typedef`
abbrev pub is_type_name_list : List Spec → Bool
is_type_name_list specs = is_type_list specs && nat_le (many is_storage specs) 1 && (many is_typedef_word specs == 0)

-- the token of a pointer part
abbrev pub pointer_shape : PointerWord → Shape
pointer_shape Pointers.Star = Shapes.Sign Signs.Star
pointer_shape Pointers.Const = Shapes.Word Words.Const
pointer_shape Pointers.Volatile = Shapes.Word Words.Volatile
pointer_shape Pointers.Restrict = Shapes.Word Words.Restrict

-- tokens of a pointer part (C99 6.7.5)
abbrev pub SpellsPointers : List PointerWord → List Token → List Token → Type 0
SpellsPointers [] ts rest = ts ≡ rest
SpellsPointers (w ∷ words) ts rest =
    (place : Place) × (mid : List Token) × Begins (pointer_shape w) place ts mid × SpellsPointers words mid rest

-- a pointer part begins with a star
abbrev pub BeginsWithStar : List PointerWord → Type 0
BeginsWithStar (Pointers.Star ∷ words) = Unit {0}
BeginsWithStar [] = Unit {0}
BeginsWithStar _ = ⊥

-- a type name (C99 6.7.6): specifiers and stars
abbrev pub SpellsTypeName : List Name → TypeTree → List Token → List Token → Type 0
SpellsTypeName types n ts rest =
    (mid : List Token) × SpellsSpecs types false n.specs ts mid × IsTrue (is_type_name_list n.specs)
    × BeginsWithStar n.pointers × SpellsPointers n.pointers mid rest

-- An expression, where `types` are the names of typedefs. Operands stand at least at the level that C99
-- gives them.
abbrev mutual
  pub Spells : List Name → Tree → List Token → List Token → Type 0
  Spells types (a_name n p) ts rest = ByName types n p ts rest
  Spells types (an_integer c p) ts rest = Begins (Shapes.Integer c) p ts rest
  Spells types (a_character v p) ts rest = Begins (Shapes.Character v) p ts rest
  Spells types (in_parentheses t) ts rest =
      (a : List Token) × (b : List Token) × BySign Signs.OpenParenthesis ts a × Spells types t a b
      × BySign Signs.CloseParenthesis b rest
  Spells types (an_input low high p) ts rest =
      (a : List Token) × (b : List Token) × (c : List Token) × (d : List Token) × (e : List Token)
      × Begins (Shapes.Word Words.Input) p ts a × BySign Signs.OpenParenthesis a b
      × Spells types low b c × (rank Levels.Condition ≤ level low) × BySign Signs.Comma c d
      × Spells types high d e × (rank Levels.Condition ≤ level high) × BySign Signs.CloseParenthesis e rest
  Spells types (an_islocked n q p) ts rest =
      (a : List Token) × (b : List Token) × (c : List Token) × Begins (Shapes.Word Words.Islocked) p ts a
      × BySign Signs.OpenParenthesis a b × ByName types n q b c × BySign Signs.CloseParenthesis c rest
  Spells types (a_call f args p) ts rest =
      (a : List Token) × (b : List Token) × ByName types f p ts a × BySign Signs.OpenParenthesis a b
      × SpellsArguments types args b rest
  Spells types (a_prefix op t p) ts rest =
      (a : List Token) × ByPrefix op p ts a × Spells types t a rest × (operand_level op ≤ level t)
  Spells types (a_sizeof_type n p) ts rest =
      (a : List Token) × (b : List Token) × (c : List Token) × Begins (Shapes.Word Words.Sizeof) p ts a
      × BySign Signs.OpenParenthesis a b × SpellsTypeName types n b c × BySign Signs.CloseParenthesis c rest
  Spells types (a_cast n t p) ts rest =
      (a : List Token) × (b : List Token) × (c : List Token) × Begins (Shapes.Sign Signs.OpenParenthesis) p ts a
      × SpellsTypeName types n a b × BySign Signs.CloseParenthesis b c × Spells types t c rest
      × (rank Levels.Cast ≤ level t)
  Spells types (an_infix l op p r) ts rest =
      (a : List Token) × (b : List Token) × Spells types l ts a × (left_level op ≤ level l)
      × ((sign : Sign) × (infix_of sign ≡ Some op) × Begins (Shapes.Sign sign) p a b)
      × Spells types r b rest × (right_level op ≤ level r)
  Spells types (a_conditional c p x y) ts rest =
      (a : List Token) × (b : List Token) × (d : List Token) × (e : List Token)
      × Spells types c ts a × (rank Levels.Or ≤ level c) × Begins (Shapes.Sign Signs.Question) p a b
      × Spells types x b d × BySign Signs.Colon d e × Spells types y e rest × (rank Levels.Condition ≤ level y)
  Spells types (a_subscript t p i) ts rest =
      (a : List Token) × (b : List Token) × (c : List Token) × Spells types t ts a × (rank Levels.Postfix ≤ level t)
      × Begins (Shapes.Sign Signs.OpenBracket) p a b × Spells types i b c × BySign Signs.CloseBracket c rest
  Spells types (a_member t access p m q) ts rest =
      (a : List Token) × (b : List Token) × Spells types t ts a × (rank Levels.Postfix ≤ level t)
      × Begins (Shapes.Sign (access_sign access)) p a b × Begins (Shapes.Name m) q b rest
  Spells types (a_postfix t op p) ts rest =
      (a : List Token) × Spells types t ts a × (rank Levels.Postfix ≤ level t)
      × Begins (Shapes.Sign (postfix_sign op)) p a rest

  -- the arguments of a call and the `)` after them
  pub SpellsArguments : List Name → Arguments → List Token → List Token → Type 0
  SpellsArguments types no_arguments ts rest = BySign Signs.CloseParenthesis ts rest
  SpellsArguments types (and_argument t args) ts rest =
      (a : List Token) × Spells types t ts a × (rank Levels.Assignment ≤ level t) × SpellsMore types args a rest

  -- further arguments, each after a `,`, and the `)` after them
  pub SpellsMore : List Name → Arguments → List Token → List Token → Type 0
  SpellsMore types no_arguments ts rest = BySign Signs.CloseParenthesis ts rest
  SpellsMore types (and_argument t args) ts rest =
      (a : List Token) × (b : List Token) × BySign Signs.Comma ts a × Spells types t a b
      × (rank Levels.Assignment ≤ level t) × SpellsMore types args b rest

-- the level of the expression that a sign continues, where it continues one
abbrev pub continued_by : Option Infix → Sign → Option ℕ
continued_by (Some op) sign = Some (infix_level op)
continued_by None Signs.Question = Some (rank Levels.Condition)
continued_by None Signs.OpenBracket = Some (rank Levels.Postfix)
continued_by None Signs.Dot = Some (rank Levels.Postfix)
continued_by None Signs.Arrow = Some (rank Levels.Postfix)
continued_by None Signs.PlusPlus = Some (rank Levels.Postfix)
continued_by None Signs.MinusMinus = Some (rank Levels.Postfix)
continued_by None Signs.OpenParenthesis = Some (rank Levels.Primary)
continued_by None _ = None

-- the same of a token: `(` continues a name, which becomes a call
abbrev pub continued_level : Shape → Option ℕ
continued_level (Shapes.Sign sign) = continued_by (infix_of sign) sign
continued_level _ = None

-- the first token continues an expression of this level or a tighter one
abbrev pub GoesOn : ℕ → List Token → Type 0
GoesOn at [] = ⊥
GoesOn at (t ∷ ts) = MatchOption (continued_level t.shape) ⊥ (λ found. at ≤ found)

-- the tokens begin with this expression, which stands at the level and is no higher than `limit`
pub record IsFront (types : List Name) (at limit : ℕ) (ts : List Token) (t : Tree) (rest : List Token) : Type 0 where
  pub spelled : Spells types t ts rest
  pub fits : at ≤ level t
  pub low : height t ≤ limit

-- It is the longest of them: every other one is shorter, and the token after it goes on at that level.
pub record IsLongest (types : List Name) (at limit : ℕ) (ts : List Token) (t : Tree) (rest : List Token) : Type 0 where
  pub front : IsFront types at limit ts t rest
  pub only : (other : Tree) (after : List Token) → IsFront types at limit ts other after
      → ((other ≡ t) × (after ≡ rest)) ⊎ ((length rest < length after) × GoesOn at after)

-- the tokens begin with no such expression
abbrev pub BeginsNone : List Name → ℕ → ℕ → List Token → Type 0
BeginsNone types at limit ts = (t : Tree) (rest : List Token) → IsFront types at limit ts t rest → ⊥
