-- Levels of trees and of the tokens that continue them.
use Rattle.std.proofs.Common.{◌≡◌, ℕ, suc, ◌<◌, ◌≤◌, ◌⊎◌, List, [], ◌∷◌, Option, Some, None, refl, ap, ◌∙◌, subst, inl, inr, arith}
use Rattle.std.specs.Prelude.{MatchOption}
use Rattle.tm_terms.specs.declared.places.Place.{Place}
use Rattle.tm_terms.specs.declared.tokens.Sign.{Sign}
use Rattle.tm_terms.specs.declared.tokens.Sign.TheVariants as Signs
use Rattle.tm_terms.specs.declared.tokens.Shape.{Shape}
use Rattle.tm_terms.specs.declared.tokens.Shape.TheVariants as Shapes
use Rattle.tm_terms.specs.declared.tokens.Token.{Token}
use Rattle.tm_terms.specs.declared.exprs.Binary.{Binary}
use Rattle.tm_terms.specs.declared.exprs.Binary.TheVariants as Binaries
use Rattle.tm_terms.specs.declared.exprs.Infix.{Infix}
use Rattle.tm_terms.specs.declared.exprs.Infix.TheVariants.{Comma, Assign, AssignBy, Binary as ByBinary}
use Rattle.tm_terms.specs.declared.exprs.Prefix.{Prefix}
use Rattle.tm_terms.specs.declared.exprs.Prefix.TheVariants as Prefixes
use Rattle.tm_terms.specs.declared.exprs.Postfix.TheVariants as Postfixes
use Rattle.tm_terms.specs.declared.exprs.Access.TheVariants as Accesses
use Rattle.tm_terms.specs.ExprTrees.{Tree, a_name, an_integer, a_character, in_parentheses, an_input, an_islocked, a_call, a_prefix, a_sizeof_type, a_cast, an_infix, a_conditional, a_subscript, a_member, a_postfix, binary_level, infix_level, right_level, operand_level, level, height}
use Rattle.tm_terms.specs.ExprSpelling.{infix_of, continued_by, continued_level, GoesOn}
use Rattle.c_expr_parser.specs.declared.marks.Opener.{Opener}
use Rattle.c_expr_parser.specs.declared.marks.Opener.TheVariants as Openers
use Rattle.c_expr_parser.specs.reading.Parts.{opener_by, opener_of, opener_level, opener_left}
use Rattle.c_expr_parser.proofs.Tokens.{none_some, from_some}
use Rattle.c_expr_parser.proofs.SoundSteps.{IsOpener}

-- the level at which a longer last operand may stand: above all levels where the last token closes the form
abbrev pub open_level : Tree → ℕ
open_level (a_name n p) = 16
open_level (an_integer c p) = 17
open_level (a_character v p) = 17
open_level (in_parentheses t) = 17
open_level (an_input low high p) = 17
open_level (an_islocked n q p) = 17
open_level (a_call f args p) = 17
open_level (a_prefix op t p) = operand_level op
open_level (a_sizeof_type n p) = 17
open_level (a_cast n t p) = 13
open_level (an_infix l op p r) = right_level op
open_level (a_conditional c p x y) = 2
open_level (a_subscript t p i) = 17
open_level (a_member t access p m q) = 17
open_level (a_postfix t op p) = 17

binary_range : (b : Binary) → (3 ≤ binary_level b) × (binary_level b ≤ 12)
binary_range Binaries.Or = (omega arith, omega arith)
binary_range Binaries.And = (omega arith, omega arith)
binary_range Binaries.BitOr = (omega arith, omega arith)
binary_range Binaries.BitXor = (omega arith, omega arith)
binary_range Binaries.BitAnd = (omega arith, omega arith)
binary_range Binaries.Equal = (omega arith, omega arith)
binary_range Binaries.NotEqual = (omega arith, omega arith)
binary_range Binaries.Less = (omega arith, omega arith)
binary_range Binaries.Greater = (omega arith, omega arith)
binary_range Binaries.LessEqual = (omega arith, omega arith)
binary_range Binaries.GreaterEqual = (omega arith, omega arith)
binary_range Binaries.ShiftLeft = (omega arith, omega arith)
binary_range Binaries.ShiftRight = (omega arith, omega arith)
binary_range Binaries.Add = (omega arith, omega arith)
binary_range Binaries.Subtract = (omega arith, omega arith)
binary_range Binaries.Multiply = (omega arith, omega arith)
binary_range Binaries.Divide = (omega arith, omega arith)
binary_range Binaries.Remainder = (omega arith, omega arith)

-- how the two levels of a tree lie
data Lies (lv op : ℕ) : Type 0 where
  closed : lv < op → Lies lv op
  right : lv ≡ op → ((lv ≡ 1) ⊎ (lv ≡ 2)) → Lies lv op
  tight : lv ≡ op → ((lv ≡ 13) ⊎ (lv ≡ 16)) → Lies lv op
  unary : lv ≡ 14 → 13 ≤ op → Lies lv op

prefix_lies : (op : Prefix) → Lies 14 (operand_level op)
prefix_lies Prefixes.Increment = unary refl (omega arith)
prefix_lies Prefixes.Decrement = unary refl (omega arith)
prefix_lies Prefixes.Address = unary refl (omega arith)
prefix_lies Prefixes.Dereference = unary refl (omega arith)
prefix_lies Prefixes.Plus = unary refl (omega arith)
prefix_lies Prefixes.Minus = unary refl (omega arith)
prefix_lies Prefixes.Complement = unary refl (omega arith)
prefix_lies Prefixes.Not = unary refl (omega arith)
prefix_lies Prefixes.Sizeof = unary refl (omega arith)

infix_lies : (op : Infix) → Lies (infix_level op) (right_level op)
infix_lies Comma = closed (omega arith)
infix_lies Assign = right refl (inl refl)
infix_lies (AssignBy o) = right refl (inl refl)
infix_lies (ByBinary o) = closed (omega arith)

lies : (t : Tree) → Lies (level t) (open_level t)
lies (a_name n p) = tight refl (inr refl)
lies (an_integer c p) = closed (omega arith)
lies (a_character v p) = closed (omega arith)
lies (in_parentheses t) = closed (omega arith)
lies (an_input low high p) = closed (omega arith)
lies (an_islocked n q p) = closed (omega arith)
lies (a_call f args p) = closed (omega arith)
lies (a_prefix op t p) = prefix_lies op
lies (a_sizeof_type n p) = closed (omega arith)
lies (a_cast n t p) = tight refl (inl refl)
lies (an_infix l op p r) = infix_lies op
lies (a_conditional c p x y) = right refl (inr refl)
lies (a_subscript t p i) = closed (omega arith)
lies (a_member t access p m q) = closed (omega arith)
lies (a_postfix t op p) = closed (omega arith)

-- how the two levels of a token that continues an expression lie
data Continues (j left : ℕ) : Type 0 where
  comma : j ≡ 0 → left ≡ 0 → Continues j left
  grouped : j ≡ left → 3 ≤ j → j ≤ 12 → Continues j left
  loose : suc j ≤ left → j ≤ 2 → Continues j left
  after_operand : j ≡ 15 → left ≡ 15 → Continues j left

continues : (o : Opener) → Continues (opener_level o) (opener_left o)
continues (Openers.Infix Comma) = comma refl refl
continues (Openers.Infix Assign) = loose (omega arith) (omega arith)
continues (Openers.Infix (AssignBy o)) = loose (omega arith) (omega arith)
continues (Openers.Infix (ByBinary o)) = grouped refl (binary_range o).0 (binary_range o).1
continues Openers.Question = loose (omega arith) (omega arith)
continues Openers.Subscript = after_operand refl refl
continues (Openers.Member access) = after_operand refl refl
continues (Openers.Postfix op) = after_operand refl refl

cannot : {j left lv op : ℕ} → Lies lv op → Continues j left → op ≤ j → left ≤ lv → ⊥
cannot (closed a) (comma b c) d e = absurd (omega arith)
cannot (closed a) (grouped b c f) d e = absurd (omega arith)
cannot (closed a) (loose b c) d e = absurd (omega arith)
cannot (closed a) (after_operand b c) d e = absurd (omega arith)
cannot (right a (inl f)) (comma b c) d e = absurd (omega arith)
cannot (right a (inl f)) (grouped b c g) d e = absurd (omega arith)
cannot (right a (inl f)) (loose b c) d e = absurd (omega arith)
cannot (right a (inl f)) (after_operand b c) d e = absurd (omega arith)
cannot (right a (inr f)) (comma b c) d e = absurd (omega arith)
cannot (right a (inr f)) (grouped b c g) d e = absurd (omega arith)
cannot (right a (inr f)) (loose b c) d e = absurd (omega arith)
cannot (right a (inr f)) (after_operand b c) d e = absurd (omega arith)
cannot (tight a (inl f)) (comma b c) d e = absurd (omega arith)
cannot (tight a (inl f)) (grouped b c g) d e = absurd (omega arith)
cannot (tight a (inl f)) (loose b c) d e = absurd (omega arith)
cannot (tight a (inl f)) (after_operand b c) d e = absurd (omega arith)
cannot (tight a (inr f)) (comma b c) d e = absurd (omega arith)
cannot (tight a (inr f)) (grouped b c g) d e = absurd (omega arith)
cannot (tight a (inr f)) (loose b c) d e = absurd (omega arith)
cannot (tight a (inr f)) (after_operand b c) d e = absurd (omega arith)
cannot (unary a f) (comma b c) d e = absurd (omega arith)
cannot (unary a f) (grouped b c g) d e = absurd (omega arith)
cannot (unary a f) (loose b c) d e = absurd (omega arith)
cannot (unary a f) (after_operand b c) d e = absurd (omega arith)

-- A token that may lengthen the last operand of t continues no expression whose left operand is t.
pub never_both : (t : Tree) (o : Opener) → open_level t ≤ opener_level o → opener_left o ≤ level t → ⊥
never_both t o = cannot (lies t) (continues o)

pub looser : (o : Opener) → opener_level o ≤ opener_left o
looser o = go (continues o)
  where
    go : {j left : ℕ} → Continues j left → j ≤ left
    go (comma a b) = omega arith
    go (grouped a b c) = omega arith
    go (loose a b) = omega arith
    go (after_operand a b) = omega arith

pub infix_small : (op : Infix) → infix_level op ≤ 12
infix_small Comma = omega arith
infix_small Assign = omega arith
infix_small (AssignBy o) = omega arith
infix_small (ByBinary o) = (binary_range o).1

-- no token continues an expression at the level of casts or of prefix operators
continued_range : (i : Option Infix) (sign : Sign) (found : ℕ) → continued_by i sign ≡ Some found → (found ≤ 12) ⊎ (15 ≤ found)
continued_range (Some op) sign found e = inl (subst (λ f. f ≤ 12) (from_some e) (infix_small op))
continued_range None Signs.Question found e = inl (subst (λ f. f ≤ 12) (from_some e) (omega arith))
continued_range None Signs.OpenBracket found e = inr (subst (λ f. 15 ≤ f) (from_some e) (omega arith))
continued_range None Signs.Dot found e = inr (subst (λ f. 15 ≤ f) (from_some e) (omega arith))
continued_range None Signs.Arrow found e = inr (subst (λ f. 15 ≤ f) (from_some e) (omega arith))
continued_range None Signs.PlusPlus found e = inr (subst (λ f. 15 ≤ f) (from_some e) (omega arith))
continued_range None Signs.MinusMinus found e = inr (subst (λ f. 15 ≤ f) (from_some e) (omega arith))
continued_range None Signs.OpenParenthesis found e = inr (subst (λ f. 15 ≤ f) (from_some e) (omega arith))
continued_range None _ found e = none_some e

level_range : (shape : Shape) (found : ℕ) → continued_level shape ≡ Some found → (found ≤ 12) ⊎ (15 ≤ found)
level_range (Shapes.Sign sign) found e = continued_range (infix_of sign) sign found e
level_range _ found e = none_some e

at_most : {at lv op found : ℕ} → Lies lv op → op ≤ found → at ≤ lv → (found ≤ 12) ⊎ (15 ≤ found) → at ≤ found
at_most (closed a) b c r = omega arith
at_most (right a f) b c r = omega arith
at_most (tight a f) b c r = omega arith
at_most (unary a f) b c (inl r) = absurd (omega arith)
at_most (unary a f) b c (inr r) = omega arith

-- what lengthens the last operand goes on at each level at which the tree stands
pub goes_on_at : (t : Tree) (at : ℕ) (ts : List Token) → GoesOn (open_level t) ts → at ≤ level t → GoesOn at ts
goes_on_at t at [] g le = g
goes_on_at t at (token ∷ ts) g le = go (continued_level token.shape) refl g
  where
    go : (o : Option ℕ) → continued_level token.shape ≡ o → MatchOption o ⊥ (λ found. open_level t ≤ found) → MatchOption o ⊥ (λ found. at ≤ found)
    go None e g = g
    go (Some found) e g = at_most (lies t) g le (level_range token.shape found e)

-- a token that continues an expression is found again
pub opener_spelled : (o : Opener) (shape : Shape) → IsOpener o shape → opener_of shape ≡ Some o
opener_spelled (Openers.Infix op) shape is = ap opener_of is.2 ∙ ap (λ i. opener_by i is.0) is.1
opener_spelled Openers.Question shape is = ap opener_of is
opener_spelled Openers.Subscript shape is = ap opener_of is
opener_spelled (Openers.Member Accesses.Dot) shape is = ap opener_of is
opener_spelled (Openers.Member Accesses.Arrow) shape is = ap opener_of is
opener_spelled (Openers.Postfix Postfixes.Increment) shape is = ap opener_of is
opener_spelled (Openers.Postfix Postfixes.Decrement) shape is = ap opener_of is

opener_level_is : (o : Opener) (shape : Shape) → IsOpener o shape → continued_level shape ≡ Some (opener_level o)
opener_level_is (Openers.Infix op) shape is = ap continued_level is.2 ∙ ap (λ i. continued_by i is.0) is.1
opener_level_is Openers.Question shape is = ap continued_level is
opener_level_is Openers.Subscript shape is = ap continued_level is
opener_level_is (Openers.Member Accesses.Dot) shape is = ap continued_level is
opener_level_is (Openers.Member Accesses.Arrow) shape is = ap continued_level is
opener_level_is (Openers.Postfix Postfixes.Increment) shape is = ap continued_level is
opener_level_is (Openers.Postfix Postfixes.Decrement) shape is = ap continued_level is

pub opener_continues : (o : Opener) (shape : Shape) (p : Place) (b : List Token) (at : ℕ) → IsOpener o shape → GoesOn at ((record { shape = shape; place = p }) ∷ b) → at ≤ opener_level o
opener_continues o shape p b at is g = subst (λ x. MatchOption x ⊥ (λ found. at ≤ found)) (opener_level_is o shape is) g

-- each tree has a node
pub has_height : (t : Tree) → 1 ≤ height t
has_height (a_name n p) = omega arith
has_height (an_integer c p) = omega arith
has_height (a_character v p) = omega arith
has_height (in_parentheses t) = omega arith
has_height (an_input low high p) = omega arith
has_height (an_islocked n q p) = omega arith
has_height (a_call f args p) = omega arith
has_height (a_prefix op t p) = omega arith
has_height (a_sizeof_type n p) = omega arith
has_height (a_cast n t p) = omega arith
has_height (an_infix l op p r) = omega arith
has_height (a_conditional c p x y) = omega arith
has_height (a_subscript t p i) = omega arith
has_height (a_member t access p m q) = omega arith
has_height (a_postfix t op p) = omega arith
