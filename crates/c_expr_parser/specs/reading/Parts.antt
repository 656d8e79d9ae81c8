-- A recursive descent over lists of tokens: what the code computes, here and in the parser of whole files.
use Rattle.std.specs.Prelude.{ℕ, zero, suc, Bool, true, false, not, cond, ◌||◌, ◌&&◌, List, [], ◌∷◌, ◌++◌, length}
use Rattle.std.specs.Prelude.{Option, Some, None}
use Rattle.std.specs.Borrow.{Bor}
use Rattle.tm_terms.specs.declared.places.Place.{Place}
use Rattle.tm_terms.specs.declared.tokens.Name.{Name}
use Rattle.tm_terms.specs.declared.tokens.Word.{Word}
use Rattle.tm_terms.specs.declared.tokens.Word.TheVariants as Words
use Rattle.tm_terms.specs.declared.tokens.Sign.{Sign}
use Rattle.tm_terms.specs.declared.tokens.Sign.TheVariants as Signs
use Rattle.tm_terms.specs.declared.tokens.Shape.{Shape}
use Rattle.tm_terms.specs.declared.tokens.Shape.TheVariants as Shapes
use Rattle.tm_terms.specs.declared.tokens.Token.{Token}
use Rattle.tm_terms.specs.declared.types_named.Spec.{Spec}
use Rattle.tm_terms.specs.declared.types_named.SpecWord.{SpecWord}
use Rattle.tm_terms.specs.declared.types_named.SpecWord.TheVariants as Specs
use Rattle.tm_terms.specs.declared.types_named.TagKind.{TagKind}
use Rattle.tm_terms.specs.declared.types_named.TagKind.TheVariants as Tags
use Rattle.tm_terms.specs.declared.types_named.PointerWord.{PointerWord}
use Rattle.tm_terms.specs.declared.types_named.PointerWord.TheVariants as Pointers
use Rattle.tm_terms.specs.declared.exprs.Infix.{Infix}
use Rattle.tm_terms.specs.declared.exprs.Postfix.TheVariants as Postfixes
use Rattle.tm_terms.specs.declared.exprs.Access.TheVariants as Accesses
use Rattle.tm_terms.specs.declared.exprs.Level.TheVariants as Levels
use Rattle.tm_terms.specs.Names.{is_typedef}
use Rattle.tm_terms.specs.ExprTrees.{TypeTree, rank, infix_level, left_level}
use Rattle.tm_terms.specs.ExprSpelling.{infix_of, spec_of, is_type_spec, is_type_name_list}
use Rattle.c_expr_parser.specs.declared.marks.Mark.{Mark}
use Rattle.c_expr_parser.specs.declared.marks.Mark.TheVariants as Marks
use Rattle.c_expr_parser.specs.declared.marks.Opener.{Opener}
use Rattle.c_expr_parser.specs.declared.marks.Opener.TheVariants as Openers

-- goes on with what was read and what follows it
abbrev pub then_read : {A B : Type 0} → Option (A × List Token) → (A → List Token → Option B) → Option B
then_read None go = None
then_read (Some x) go = go x.0 x.1

-- goes on with what follows
abbrev pub and_after : {B : Type 0} → Option (List Token) → (List Token → Option B) → Option B
and_after None go = None
and_after (Some rest) go = go rest

-- the tokens behind the references of the code
abbrev pub seen_rest : Option (Bor (List Token)) → Option (List Token)
seen_rest None = None
seen_rest (Some rest) = Some rest.now

abbrev pub seen_pair : {A : Type 0} → Option (A × Bor (List Token)) → Option (A × List Token)
seen_pair None = None
seen_pair (Some found) = Some (found.0, found.1.now)

abbrev pub seen_name : Option (Name × Place × Bor (List Token)) → Option ((Name × Place) × List Token)
seen_name None = None
seen_name (Some found) = Some ((found.0, found.1), found.2.now)

abbrev pub is_mark : Mark → Shape → Bool
is_mark Marks.OpenParenthesis (Shapes.Sign Signs.OpenParenthesis) = true
is_mark Marks.CloseParenthesis (Shapes.Sign Signs.CloseParenthesis) = true
is_mark Marks.OpenBracket (Shapes.Sign Signs.OpenBracket) = true
is_mark Marks.CloseBracket (Shapes.Sign Signs.CloseBracket) = true
is_mark Marks.OpenBrace (Shapes.Sign Signs.OpenBrace) = true
is_mark Marks.CloseBrace (Shapes.Sign Signs.CloseBrace) = true
is_mark Marks.Colon (Shapes.Sign Signs.Colon) = true
is_mark Marks.Comma (Shapes.Sign Signs.Comma) = true
is_mark Marks.Semicolon (Shapes.Sign Signs.Semicolon) = true
is_mark Marks.Equal (Shapes.Sign Signs.Equal) = true
is_mark _ _ = false

-- what follows the mark, if it comes first
abbrev pub after : Mark → List Token → Option (List Token)
after mark [] = None
after mark (t ∷ ts) = cond (is_mark mark t.shape) (Some ts) None

abbrev pub name_by : Shape → Place → List Token → Option ((Name × Place) × List Token)
name_by (Shapes.Name n) place ts = Some ((n, place), ts)
name_by _ place ts = None

-- the name that comes first
abbrev pub name_at : List Token → Option ((Name × Place) × List Token)
name_at [] = None
name_at (t ∷ ts) = name_by t.shape t.place ts

abbrev pub opener_by : Option Infix → Sign → Option Opener
opener_by (Some op) sign = Some (Openers.Infix op)
opener_by None Signs.Question = Some Openers.Question
opener_by None Signs.OpenBracket = Some Openers.Subscript
opener_by None Signs.Dot = Some (Openers.Member Accesses.Dot)
opener_by None Signs.Arrow = Some (Openers.Member Accesses.Arrow)
opener_by None Signs.PlusPlus = Some (Openers.Postfix Postfixes.Increment)
opener_by None Signs.MinusMinus = Some (Openers.Postfix Postfixes.Decrement)
opener_by None _ = None

-- what a token makes of the expression before it
abbrev pub opener_of : Shape → Option Opener
opener_of (Shapes.Sign sign) = opener_by (infix_of sign) sign
opener_of _ = None

-- the level of what it makes, and the least level of the expression before it
abbrev pub opener_level : Opener → ℕ
opener_level (Openers.Infix op) = infix_level op
opener_level Openers.Question = rank Levels.Condition
opener_level Openers.Subscript = rank Levels.Postfix
opener_level (Openers.Member access) = rank Levels.Postfix
opener_level (Openers.Postfix op) = rank Levels.Postfix

abbrev pub opener_left : Opener → ℕ
opener_left (Openers.Infix op) = left_level op
opener_left Openers.Question = rank Levels.Or
opener_left Openers.Subscript = rank Levels.Postfix
opener_left (Openers.Member access) = rank Levels.Postfix
opener_left (Openers.Postfix op) = rank Levels.Postfix

abbrev pub tagged_by : TagKind → Place → Option ((Name × Place) × List Token) → Option (Spec × List Token)
tagged_by kind place None = None
tagged_by kind place (Some found) =
    Some (record { word = Specs.Tagged kind found.0.0 found.0.1; place = place }, found.1)

abbrev pub word_spec : Option SpecWord → Word → Place → List Token → Option (Spec × List Token)
word_spec (Some word) w place ts = Some (record { word = word; place = place }, ts)
word_spec None Words.Struct place ts = tagged_by Tags.Struct place (name_at ts)
word_spec None Words.Enum place ts = tagged_by Tags.Enum place (name_at ts)
word_spec None _ place ts = None

abbrev pub spec_by : List Name → Bool → Shape → Place → List Token → Option (Spec × List Token)
spec_by types seen (Shapes.Name n) place ts =
    cond (is_typedef types n && not seen) (Some (record { word = Specs.Alias n; place = place }, ts)) None
spec_by types seen (Shapes.Word w) place ts = word_spec (spec_of w) w place ts
spec_by types seen _ place ts = None

-- the specifier that comes first
abbrev pub spec_at : List Name → Bool → List Token → Option (Spec × List Token)
spec_at types seen [] = None
spec_at types seen (t ∷ ts) = spec_by types seen t.shape t.place ts

abbrev pub specs_by : {A : Type 0} → Option (Spec × List Token) → A → (Spec → List Token → A) → A
specs_by None stop go = stop
specs_by (Some x) stop go = go x.0 x.1

-- after those read so far the next specifiers, at most n
unfoldable pub specs_from : List Name → ℕ → Bool → List Spec → List Token → List Spec × List Token
specs_from types zero seen read ts = (read, ts)
specs_from types (suc n) seen read ts =
    specs_by (spec_at types seen ts) (read, ts)
    (λ s rest. specs_from types n (seen || is_type_spec s.word) (read ++ s ∷ []) rest)

-- a token of a pointer part, which begins with a star
abbrev pub pointer_by : Bool → Shape → Option PointerWord
pointer_by started (Shapes.Sign Signs.Star) = Some Pointers.Star
pointer_by true (Shapes.Word Words.Const) = Some Pointers.Const
pointer_by true (Shapes.Word Words.Volatile) = Some Pointers.Volatile
pointer_by true (Shapes.Word Words.Restrict) = Some Pointers.Restrict
pointer_by _ _ = None

abbrev pub pointer_at : Bool → List Token → Option PointerWord
pointer_at started [] = None
pointer_at started (t ∷ ts) = pointer_by started t.shape

abbrev pub pointers_by : {A : Type 0} → Option PointerWord → A → (PointerWord → A) → A
pointers_by None stop go = stop
pointers_by (Some w) stop go = go w

abbrev pub without_first : List Token → List Token
without_first [] = []
without_first (t ∷ ts) = ts

unfoldable pub pointers_from : ℕ → Bool → List PointerWord → List Token → List PointerWord × List Token
pointers_from zero started read ts = (read, ts)
pointers_from (suc n) started read ts =
    pointers_by (pointer_at started ts) (read, ts) (λ w. pointers_from n true (read ++ w ∷ []) (without_first ts))

abbrev pub type_name_of : List Spec → List PointerWord × List Token → Option (TypeTree × List Token)
type_name_of specs x = cond (is_type_name_list specs) (Some (record { specs = specs; pointers = x.0 }, x.1)) None

-- the type name that comes first
unfoldable pub type_name : List Name → List Token → Option (TypeTree × List Token)
type_name types ts =
    let x = specs_from types (length ts) false [] ts in
    type_name_of x.0 (pointers_from (length x.1) false [] x.1)

abbrev pub begins_word : Option SpecWord → Word → Bool
begins_word (Some word) v = true
begins_word None Words.Struct = true
begins_word None Words.Enum = true
begins_word None _ = false

abbrev pub begins_by : List Name → Shape → Bool
begins_by types (Shapes.Name n) = is_typedef types n
begins_by types (Shapes.Word w) = begins_word (spec_of w) w
begins_by types _ = false

-- the first token begins a type name
abbrev pub begins_type : List Name → List Token → Bool
begins_type types [] = false
begins_type types (t ∷ ts) = begins_by types t.shape
