-- What the first token of an expression can be.
use Rattle.std.proofs.Common.{◌≡◌, ◌≤◌, false, List, ◌∷◌, Some, None, refl, ap, ◌∙◌, arith}
use Rattle.tm_terms.specs.declared.places.Place.{Place}
use Rattle.tm_terms.specs.declared.tokens.Name.{Name}
use Rattle.tm_terms.specs.declared.tokens.Word.TheVariants as Words
use Rattle.tm_terms.specs.declared.tokens.Sign.{Sign}
use Rattle.tm_terms.specs.declared.tokens.Sign.TheVariants as Signs
use Rattle.tm_terms.specs.declared.tokens.Shape.{Shape}
use Rattle.tm_terms.specs.declared.tokens.Shape.TheVariants as Shapes
use Rattle.tm_terms.specs.declared.tokens.Token.{Token}
use Rattle.tm_terms.specs.declared.exprs.Prefix.{Prefix}
use Rattle.tm_terms.specs.declared.exprs.Prefix.TheVariants as Prefixes
use Rattle.tm_terms.specs.Names.{is_typedef}
use Rattle.tm_terms.specs.ExprTrees.{Tree, a_name, an_integer, a_character, in_parentheses, an_input, an_islocked, a_call, a_prefix, a_sizeof_type, a_cast, an_infix, a_conditional, a_subscript, a_member, a_postfix, level}
use Rattle.tm_terms.specs.ExprSpelling.{Begins, ByPrefix, prefix_of, Spells}
use Rattle.c_expr_parser.specs.declared.marks.Mark.TheVariants as Marks
use Rattle.c_expr_parser.specs.reading.Parts.{after, begins_type}
use Rattle.c_expr_parser.specs.reading.Descent.{type_follows}
use Rattle.c_expr_parser.proofs.Tokens.{none_some}
use Rattle.c_expr_parser.proofs.LevelFacts.{infix_small}

-- a shape that an expression can begin with
pub data Starts (types : List Name) : Shape → Type 0 where
  by_name : {n : Name} → is_typedef types n ≡ false → Starts types (Shapes.Name n)
  by_integer : {c : _} → Starts types (Shapes.Integer c)
  by_character : {v : _} → Starts types (Shapes.Character v)
  by_sizeof : Starts types (Shapes.Word Words.Sizeof)
  by_input : Starts types (Shapes.Word Words.Input)
  by_islocked : Starts types (Shapes.Word Words.Islocked)
  by_parenthesis : Starts types (Shapes.Sign Signs.OpenParenthesis)
  by_operator : {sign : Sign} (op : Prefix) → prefix_of sign ≡ Some op → Starts types (Shapes.Sign sign)

abbrev pub Started : List Name → List Token → Type 0
Started types ts = (shape : Shape) × (p : Place) × (b : List Token) × Begins shape p ts b × Starts types shape

prefix_starts : (types : List Name) (op : Prefix) (p : Place) (ts b : List Token) → ByPrefix op p ts b → Started types ts
prefix_starts types Prefixes.Sizeof p ts b s = (Shapes.Word Words.Sizeof, p, b, s, by_sizeof)
prefix_starts types Prefixes.Increment p ts b s = (Shapes.Sign s.0, p, b, s.2, by_operator Prefixes.Increment s.1)
prefix_starts types Prefixes.Decrement p ts b s = (Shapes.Sign s.0, p, b, s.2, by_operator Prefixes.Decrement s.1)
prefix_starts types Prefixes.Address p ts b s = (Shapes.Sign s.0, p, b, s.2, by_operator Prefixes.Address s.1)
prefix_starts types Prefixes.Dereference p ts b s = (Shapes.Sign s.0, p, b, s.2, by_operator Prefixes.Dereference s.1)
prefix_starts types Prefixes.Plus p ts b s = (Shapes.Sign s.0, p, b, s.2, by_operator Prefixes.Plus s.1)
prefix_starts types Prefixes.Minus p ts b s = (Shapes.Sign s.0, p, b, s.2, by_operator Prefixes.Minus s.1)
prefix_starts types Prefixes.Complement p ts b s = (Shapes.Sign s.0, p, b, s.2, by_operator Prefixes.Complement s.1)
prefix_starts types Prefixes.Not p ts b s = (Shapes.Sign s.0, p, b, s.2, by_operator Prefixes.Not s.1)

pub started : (types : List Name) (t : Tree) (ts rest : List Token) → Spells types t ts rest → Started types ts
started types (a_name n p) ts rest s = (Shapes.Name n, p, rest, s.1, by_name s.0)
started types (an_integer c p) ts rest s = (Shapes.Integer c, p, rest, s, by_integer)
started types (a_character v p) ts rest s = (Shapes.Character v, p, rest, s, by_character)
started types (in_parentheses t) ts rest s = (Shapes.Sign Signs.OpenParenthesis, s.2.0, s.0, s.2.1, by_parenthesis)
started types (an_input low high p) ts rest s = (Shapes.Word Words.Input, p, s.0, s.5, by_input)
started types (an_islocked n q p) ts rest s = (Shapes.Word Words.Islocked, p, s.0, s.3, by_islocked)
started types (a_call f args p) ts rest s = (Shapes.Name f, p, s.0, s.2.1, by_name s.2.0)
started types (a_prefix op t p) ts rest s = prefix_starts types op p ts s.0 s.1
started types (a_sizeof_type n p) ts rest s = (Shapes.Word Words.Sizeof, p, s.0, s.3, by_sizeof)
started types (a_cast n t p) ts rest s = (Shapes.Sign Signs.OpenParenthesis, p, s.0, s.3, by_parenthesis)
started types (an_infix l op p r) ts rest s = started types l ts s.0 s.2
started types (a_conditional c p x y) ts rest s = started types c ts s.0 s.4
started types (a_subscript t p i) ts rest s = started types t ts s.0 s.3
started types (a_member t access p m q) ts rest s = started types t ts s.0 s.2
started types (a_postfix t op p) ts rest s = started types t ts s.0 s.1

starts_no_type : (types : List Name) (shape : Shape) (p : Place) (b : List Token) → Starts types shape → begins_type types ((record { shape = shape; place = p }) ∷ b) ≡ false
starts_no_type types _ p b (by_name e) = e
starts_no_type types _ p b by_integer = refl
starts_no_type types _ p b by_character = refl
starts_no_type types _ p b by_sizeof = refl
starts_no_type types _ p b by_input = refl
starts_no_type types _ p b by_islocked = refl
starts_no_type types _ p b by_parenthesis = refl
starts_no_type types _ p b (by_operator op e) = refl

-- an expression begins no type name
pub no_type : (types : List Name) (t : Tree) (ts rest : List Token) → Spells types t ts rest → begins_type types ts ≡ false
no_type types t ts rest s =
    let a = started types t ts rest s in ap (begins_type types) a.3 ∙ starts_no_type types a.0 a.1 a.2 a.4

starts_no_close : (types : List Name) (shape : Shape) (p : Place) (b : List Token) → Starts types shape → after Marks.CloseParenthesis ((record { shape = shape; place = p }) ∷ b) ≡ None
starts_no_close types _ p b (by_name e) = refl
starts_no_close types _ p b by_integer = refl
starts_no_close types _ p b by_character = refl
starts_no_close types _ p b by_sizeof = refl
starts_no_close types _ p b by_input = refl
starts_no_close types _ p b by_islocked = refl
starts_no_close types _ p b by_parenthesis = refl
starts_no_close types _ p b (by_operator {sign} op e) = no_operator sign op e p b
  where
    no_operator : (sign : Sign) (op : Prefix) → prefix_of sign ≡ Some op → (p : Place) (b : List Token) → after Marks.CloseParenthesis ((record { shape = Shapes.Sign sign; place = p }) ∷ b) ≡ None
    no_operator Signs.CloseParenthesis op e p b = none_some e
    no_operator _ op e p b = refl

-- nor with a `)`
pub no_close : (types : List Name) (t : Tree) (ts rest : List Token) → Spells types t ts rest → after Marks.CloseParenthesis ts ≡ None
no_close types t ts rest s =
    let a = started types t ts rest s in ap (after Marks.CloseParenthesis) a.3 ∙ starts_no_close types a.0 a.1 a.2 a.4

abbrev pub NoTypeAfter : List Name → List Token → Type 0
NoTypeAfter types ts = type_follows types (after Marks.OpenParenthesis ts) ≡ false

begins_no_type : (types : List Name) (shape : Shape) (p : Place) (ts b : List Token) → Begins shape p ts b → after Marks.OpenParenthesis ((record { shape = shape; place = p }) ∷ b) ≡ None → NoTypeAfter types ts
begins_no_type types shape p ts b s e = ap (λ l. type_follows types (after Marks.OpenParenthesis l)) s ∙ ap (type_follows types) e

sign_no_type : (types : List Name) (sign : Sign) (op : Prefix) → prefix_of sign ≡ Some op → (p : Place) (ts b : List Token) → Begins (Shapes.Sign sign) p ts b → NoTypeAfter types ts
sign_no_type types sign op e p ts b s = begins_no_type types (Shapes.Sign sign) p ts b s (go sign e)
  where
    go : (sign : Sign) → prefix_of sign ≡ Some op → after Marks.OpenParenthesis ((record { shape = Shapes.Sign sign; place = p }) ∷ b) ≡ None
    go Signs.OpenParenthesis e = none_some e
    go _ e = refl

prefix_no_type : (types : List Name) (op : Prefix) (p : Place) (ts b : List Token) → ByPrefix op p ts b → NoTypeAfter types ts
prefix_no_type types Prefixes.Sizeof p ts b s = begins_no_type types (Shapes.Word Words.Sizeof) p ts b s refl
prefix_no_type types Prefixes.Increment p ts b s = sign_no_type types s.0 Prefixes.Increment s.1 p ts b s.2
prefix_no_type types Prefixes.Decrement p ts b s = sign_no_type types s.0 Prefixes.Decrement s.1 p ts b s.2
prefix_no_type types Prefixes.Address p ts b s = sign_no_type types s.0 Prefixes.Address s.1 p ts b s.2
prefix_no_type types Prefixes.Dereference p ts b s = sign_no_type types s.0 Prefixes.Dereference s.1 p ts b s.2
prefix_no_type types Prefixes.Plus p ts b s = sign_no_type types s.0 Prefixes.Plus s.1 p ts b s.2
prefix_no_type types Prefixes.Minus p ts b s = sign_no_type types s.0 Prefixes.Minus s.1 p ts b s.2
prefix_no_type types Prefixes.Complement p ts b s = sign_no_type types s.0 Prefixes.Complement s.1 p ts b s.2
prefix_no_type types Prefixes.Not p ts b s = sign_no_type types s.0 Prefixes.Not s.1 p ts b s.2

-- the operand of `sizeof` begins with no type in parentheses, since a cast is no unary expression
pub no_type_after : (types : List Name) (t : Tree) (ts rest : List Token) → Spells types t ts rest → 14 ≤ level t → NoTypeAfter types ts
no_type_after types (a_name n p) ts rest s le = begins_no_type types (Shapes.Name n) p ts rest s.1 refl
no_type_after types (an_integer c p) ts rest s le = begins_no_type types (Shapes.Integer c) p ts rest s refl
no_type_after types (a_character v p) ts rest s le = begins_no_type types (Shapes.Character v) p ts rest s refl
no_type_after types (in_parentheses t) ts rest s le =
    ap (λ l. type_follows types (after Marks.OpenParenthesis l)) s.2.1 ∙ no_type types t s.0 s.1 s.3
no_type_after types (an_input low high p) ts rest s le = begins_no_type types (Shapes.Word Words.Input) p ts s.0 s.5 refl
no_type_after types (an_islocked n q p) ts rest s le = begins_no_type types (Shapes.Word Words.Islocked) p ts s.0 s.3 refl
no_type_after types (a_call f args p) ts rest s le = begins_no_type types (Shapes.Name f) p ts s.0 s.2.1 refl
no_type_after types (a_prefix op t p) ts rest s le = prefix_no_type types op p ts s.0 s.1
no_type_after types (a_sizeof_type n p) ts rest s le = begins_no_type types (Shapes.Word Words.Sizeof) p ts s.0 s.3 refl
no_type_after types (a_cast n t p) ts rest s le = absurd (omega arith)
no_type_after types (an_infix l op p r) ts rest s le = absurd (omega (arith, infix_small op, le))
no_type_after types (a_conditional c p x y) ts rest s le = absurd (omega arith)
no_type_after types (a_subscript t p i) ts rest s le = no_type_after types t ts s.0 s.3 (omega (arith, s.4))
no_type_after types (a_member t access p m q) ts rest s le = no_type_after types t ts s.0 s.2 (omega (arith, s.3))
no_type_after types (a_postfix t op p) ts rest s le = no_type_after types t ts s.0 s.1 (omega (arith, s.2))
