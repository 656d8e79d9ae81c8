-- The first tokens: what the tests on them find, and that they find what is spelled.
use Rattle.std.proofs.Common.{◌≡◌, suc, ◌<◌, Bool, true, false, cond, List, [], ◌∷◌, length, Option, Some, None, refl, ap, ◌∙◌, arith}
use Rattle.std.specs.Prelude.{not, ◌&&◌}
use Rattle.tm_terms.specs.declared.places.Place.{Place}
use Rattle.tm_terms.specs.declared.tokens.Name.{Name}
use Rattle.tm_terms.specs.declared.tokens.Sign.{Sign}
use Rattle.tm_terms.specs.declared.tokens.Sign.TheVariants as Signs
use Rattle.tm_terms.specs.declared.tokens.Shape.{Shape}
use Rattle.tm_terms.specs.declared.tokens.Shape.TheVariants as Shapes
use Rattle.tm_terms.specs.declared.tokens.Token.{Token}
use Rattle.tm_terms.specs.ExprSpelling.{Begins, BySign}
use Rattle.c_expr_parser.specs.declared.marks.Mark.{Mark}
use Rattle.c_expr_parser.specs.declared.marks.Mark.TheVariants as Marks
use Rattle.c_expr_parser.specs.reading.Parts.{then_read, and_after, is_mark, after, name_by, name_at}

-- the sign of a mark
abbrev pub mark_sign : Mark → Sign
mark_sign Marks.OpenParenthesis = Signs.OpenParenthesis
mark_sign Marks.CloseParenthesis = Signs.CloseParenthesis
mark_sign Marks.OpenBracket = Signs.OpenBracket
mark_sign Marks.CloseBracket = Signs.CloseBracket
mark_sign Marks.OpenBrace = Signs.OpenBrace
mark_sign Marks.CloseBrace = Signs.CloseBrace
mark_sign Marks.Colon = Signs.Colon
mark_sign Marks.Comma = Signs.Comma
mark_sign Marks.Semicolon = Signs.Semicolon
mark_sign Marks.Equal = Signs.Equal

pub false_true : {P : Type 0} → false ≡ true → P
false_true e = cc

pub none_some : {A P : Type 0} {x : A} → None ≡ Some x → P
none_some e = cc

pub from_some : {A : Type 0} {x y : A} → Some x ≡ Some y → x ≡ y
from_some e = cc

is_mark_true : (mark : Mark) (shape : Shape) → is_mark mark shape ≡ true → shape ≡ Shapes.Sign (mark_sign mark)
is_mark_true Marks.OpenParenthesis (Shapes.Sign Signs.OpenParenthesis) e = refl
is_mark_true Marks.CloseParenthesis (Shapes.Sign Signs.CloseParenthesis) e = refl
is_mark_true Marks.OpenBracket (Shapes.Sign Signs.OpenBracket) e = refl
is_mark_true Marks.CloseBracket (Shapes.Sign Signs.CloseBracket) e = refl
is_mark_true Marks.OpenBrace (Shapes.Sign Signs.OpenBrace) e = refl
is_mark_true Marks.CloseBrace (Shapes.Sign Signs.CloseBrace) e = refl
is_mark_true Marks.Colon (Shapes.Sign Signs.Colon) e = refl
is_mark_true Marks.Comma (Shapes.Sign Signs.Comma) e = refl
is_mark_true Marks.Semicolon (Shapes.Sign Signs.Semicolon) e = refl
is_mark_true Marks.Equal (Shapes.Sign Signs.Equal) e = refl
is_mark_true _ _ e = false_true e

is_mark_same : (mark : Mark) → is_mark mark (Shapes.Sign (mark_sign mark)) ≡ true
is_mark_same Marks.OpenParenthesis = refl
is_mark_same Marks.CloseParenthesis = refl
is_mark_same Marks.OpenBracket = refl
is_mark_same Marks.CloseBracket = refl
is_mark_same Marks.OpenBrace = refl
is_mark_same Marks.CloseBrace = refl
is_mark_same Marks.Colon = refl
is_mark_same Marks.Comma = refl
is_mark_same Marks.Semicolon = refl
is_mark_same Marks.Equal = refl

-- a token of another shape
pub shaped : {a b : Shape} (p : Place) (ts : List Token) → a ≡ b → (record { shape = a; place = p }) ∷ ts ≡ (record { shape = b; place = p }) ∷ ts
shaped p ts e = let f : Shape → List Token = λ s. (record { shape = s; place = p }) ∷ ts in ap f e

pub after_finds : (mark : Mark) (ts rest : List Token) → after mark ts ≡ Some rest → BySign (mark_sign mark) ts rest
after_finds mark [] rest e = none_some e
after_finds mark (t ∷ ts) rest e = go (is_mark mark t.shape) refl e
  where
    go : (b : Bool) → is_mark mark t.shape ≡ b → cond b (Some ts) None ≡ Some rest → BySign (mark_sign mark) (t ∷ ts) rest
    go false h e = none_some e
    go true h e = (t.place, shaped t.place ts (is_mark_true mark t.shape h) ∙ ap (λ l. (record { shape = Shapes.Sign (mark_sign mark); place = t.place }) ∷ l) (from_some e))

pub after_spelled : (mark : Mark) (ts rest : List Token) → BySign (mark_sign mark) ts rest → after mark ts ≡ Some rest
after_spelled mark ts rest s = ap (after mark) s.1 ∙ ap (λ b. cond b (Some rest) None) (is_mark_same mark)

name_by_finds : (shape : Shape) (place : Place) (ts : List Token) (x : (Name × Place) × List Token) → name_by shape place ts ≡ Some x → Begins (Shapes.Name x.0.0) x.0.1 ((record { shape = shape; place = place }) ∷ ts) x.1
name_by_finds (Shapes.Name n) place ts x e =
    let f : (Name × Place) × List Token → List Token = λ y. (record { shape = Shapes.Name y.0.0; place = y.0.1 }) ∷ y.1 in
    ap f (from_some e)
name_by_finds _ place ts x e = none_some e

pub name_at_finds : (ts : List Token) (x : (Name × Place) × List Token) → name_at ts ≡ Some x → Begins (Shapes.Name x.0.0) x.0.1 ts x.1
name_at_finds [] x e = none_some e
name_at_finds (t ∷ ts) x e = name_by_finds t.shape t.place ts x e

pub name_at_spelled : (n : Name) (p : Place) (ts rest : List Token) → Begins (Shapes.Name n) p ts rest → name_at ts ≡ Some ((n, p), rest)
name_at_spelled n p ts rest e = ap name_at e

-- what went before where something was read in the end
pub then_read_some : {A B : Type 0} (o : Option (A × List Token)) (go : A → List Token → Option B) (y : B) → then_read o go ≡ Some y → (x : A × List Token) × (o ≡ Some x) × (go x.0 x.1 ≡ Some y)
then_read_some None go y e = none_some e
then_read_some (Some x) go y e = (x, refl, e)

pub and_after_some : {B : Type 0} (o : Option (List Token)) (go : List Token → Option B) (y : B) → and_after o go ≡ Some y → (rest : List Token) × (o ≡ Some rest) × (go rest ≡ Some y)
and_after_some None go y e = none_some e
and_after_some (Some rest) go y e = (rest, refl, e)

pub cond_some : {B : Type 0} (b : Bool) (o : Option B) (y : B) → cond b o None ≡ Some y → (b ≡ true) × (o ≡ Some y)
cond_some false o y e = none_some e
cond_some true o y e = (refl, e)

pub cond_none_some : {B : Type 0} (b : Bool) (o : Option B) (y : B) → cond b None o ≡ Some y → (b ≡ false) × (o ≡ Some y)
cond_none_some true o y e = none_some e
cond_none_some false o y e = (refl, e)

pub and_true : (a b : Bool) → a && b ≡ true → (a ≡ true) × (b ≡ true)
and_true false b e = false_true e
and_true true b e = (refl, e)

pub and_both : (a b : Bool) → a ≡ true → b ≡ true → a && b ≡ true
and_both a b e f = ap (λ c. c && b) e ∙ f

pub not_true : (b : Bool) → not b ≡ true → b ≡ false
not_true true e = false_true e
not_true false e = refl

-- one token less
pub begins_shorter : (shape : Shape) (p : Place) (ts rest : List Token) → Begins shape p ts rest → length rest < length ts
begins_shorter shape p ts rest e =
    let n : length ts ≡ suc (length rest) = ap length e in omega arith
