-- First tokens: marks and their places, words, and names that may be declared.
use Rattle.std.proofs.Common.{◌≡◌, ℕ, ◌≤◌, Bool, true, false, cond, ◌||◌, List, [], ◌∷◌, Option, Some, None, refl, sym, ap, ◌∙◌, subst, arith}
use Rattle.std.specs.Prelude.{not}
use Rattle.tm_terms.specs.declared.places.Place.{Place}
use Rattle.tm_terms.specs.declared.tokens.Name.{Name}
use Rattle.tm_terms.specs.declared.tokens.Word.{Word}
use Rattle.tm_terms.specs.declared.tokens.Word.TheVariants as Words
use Rattle.tm_terms.specs.declared.tokens.Shape.{Shape}
use Rattle.tm_terms.specs.declared.tokens.Shape.TheVariants as Shapes
use Rattle.tm_terms.specs.declared.tokens.Token.{Token}
use Rattle.tm_terms.specs.Names.{is_typedef}
use Rattle.tm_terms.specs.ExprSpelling.{Begins, BySign, GoesOn}
use Rattle.c_expr_parser.specs.declared.marks.Mark.{Mark}
use Rattle.c_expr_parser.specs.declared.marks.Mark.TheVariants as Marks
use Rattle.c_expr_parser.specs.reading.Parts.{is_mark, after, name_at}
use Rattle.c_expr_parser.proofs.Tokens.{mark_sign, false_true, none_some, from_some, shaped, after_finds, after_spelled, name_at_finds, then_read_some, cond_some, not_true}
use Rattle.tm_trees.specs.DeclarationSpelling.{ByWord, SpellsDeclaredName}
use Rattle.c_decl_parser.specs.declared.tokens.Keyword.{Keyword}
use Rattle.c_decl_parser.specs.declared.tokens.Keyword.TheVariants as Keywords
use Rattle.c_decl_parser.specs.reading.Parts.{place_after, is_keyword, after_word, declared_at}

-- ## Marks and their places

-- the shape of the first token, where there is one
abbrev pub first_shape : Shape → List Token → Shape
first_shape shape [] = shape
first_shape shape (t ∷ ts) = t.shape

-- a mark is there where its sign is
mark_there : (mark : Mark) (p : Place) (rest : List Token) → is_mark mark (Shapes.Sign (mark_sign mark)) ≡ true
mark_there mark p rest = go (is_mark mark (Shapes.Sign (mark_sign mark))) (after_spelled mark ((record { shape = Shapes.Sign (mark_sign mark); place = p }) ∷ rest) rest (p, refl))
  where
    go : (b : Bool) → cond b (Some rest) None ≡ Some rest → b ≡ true
    go false e = none_some e
    go true e = refl

pub place_after_finds : (mark : Mark) (ts : List Token) (x : Place × List Token) → place_after mark ts ≡ Some x → Begins (Shapes.Sign (mark_sign mark)) x.0 ts x.1
place_after_finds mark [] x e = none_some e
place_after_finds mark (t ∷ ts) x e = go (is_mark mark t.shape) refl e
  where
    go : (b : Bool) → is_mark mark t.shape ≡ b → cond b (Some (t.place, ts)) None ≡ Some x → Begins (Shapes.Sign (mark_sign mark)) x.0 (t ∷ ts) x.1
    go false h e = none_some e
    go true h e =
        let s = after_finds mark (t ∷ ts) ts (ap (λ b. cond b (Some ts) None) h) in
        subst (λ (y : Place × List Token). Begins (Shapes.Sign (mark_sign mark)) y.0 (t ∷ ts) y.1) (from_some e) (shaped t.place ts (ap (first_shape t.shape) s.1))

pub place_after_spelled : (mark : Mark) (p : Place) (ts rest : List Token) → Begins (Shapes.Sign (mark_sign mark)) p ts rest → place_after mark ts ≡ Some (p, rest)
place_after_spelled mark p ts rest s = ap (place_after mark) s ∙ ap (λ b. cond b (Some (p, rest)) None) (mark_there mark p rest)

pub place_after_none : (mark : Mark) (ts : List Token) → after mark ts ≡ None → place_after mark ts ≡ None
place_after_none mark [] e = refl
place_after_none mark (t ∷ ts) e = go (is_mark mark t.shape) e
  where
    go : (b : Bool) → cond b (Some ts) None ≡ None → cond {A = Option (Place × List Token)} b (Some (t.place, ts)) None ≡ None
    go false e = refl
    go true e = none_some (sym e)

-- The least level of an expression that a mark does not go on: `,` goes on a list, `=` an assignment, `[` and `(` what binds tightest.
abbrev pub least_stop : Mark → ℕ
least_stop Marks.Comma = 1
least_stop Marks.Equal = 2
least_stop Marks.OpenBracket = 16
least_stop Marks.OpenParenthesis = 17
least_stop _ = 0

pub mark_stops : (mark : Mark) (at : ℕ) (ts rest : List Token) → least_stop mark ≤ at → BySign (mark_sign mark) ts rest → GoesOn at ts → ⊥
mark_stops Marks.OpenParenthesis at ts rest le s g = let h : at ≤ 16 = subst (GoesOn at) s.1 g in absurd (omega arith)
mark_stops Marks.CloseParenthesis at ts rest le s g = subst (GoesOn at) s.1 g
mark_stops Marks.OpenBracket at ts rest le s g = let h : at ≤ 15 = subst (GoesOn at) s.1 g in absurd (omega arith)
mark_stops Marks.CloseBracket at ts rest le s g = subst (GoesOn at) s.1 g
mark_stops Marks.OpenBrace at ts rest le s g = subst (GoesOn at) s.1 g
mark_stops Marks.CloseBrace at ts rest le s g = subst (GoesOn at) s.1 g
mark_stops Marks.Colon at ts rest le s g = subst (GoesOn at) s.1 g
mark_stops Marks.Comma at ts rest le s g = let h : at ≤ 0 = subst (GoesOn at) s.1 g in absurd (omega arith)
mark_stops Marks.Semicolon at ts rest le s g = subst (GoesOn at) s.1 g
mark_stops Marks.Equal at ts rest le s g = let h : at ≤ 1 = subst (GoesOn at) s.1 g in absurd (omega arith)

-- ## Words

abbrev pub keyword_word : Keyword → Word
keyword_word Keywords.Else = Words.Else
keyword_word Keywords.While = Words.While
keyword_word Keywords.Void = Words.Void

keyword_true : (word : Keyword) (shape : Shape) → is_keyword word shape ≡ true → shape ≡ Shapes.Word (keyword_word word)
keyword_true Keywords.Else (Shapes.Word Words.Else) e = refl
keyword_true Keywords.While (Shapes.Word Words.While) e = refl
keyword_true Keywords.Void (Shapes.Word Words.Void) e = refl
keyword_true _ _ e = false_true e

pub after_word_finds : (word : Keyword) (ts rest : List Token) → after_word word ts ≡ Some rest → ByWord (keyword_word word) ts rest
after_word_finds word [] rest e = none_some e
after_word_finds word (t ∷ ts) rest e = go (is_keyword word t.shape) refl e
  where
    go : (b : Bool) → is_keyword word t.shape ≡ b → cond b (Some ts) None ≡ Some rest → ByWord (keyword_word word) (t ∷ ts) rest
    go false h e = none_some e
    go true h e = (t.place, shaped t.place ts (keyword_true word t.shape h) ∙ ap (λ l. (record { shape = Shapes.Word (keyword_word word); place = t.place }) ∷ l) (from_some e))

pub after_word_spelled : (word : Keyword) (ts rest : List Token) → ByWord (keyword_word word) ts rest → after_word word ts ≡ Some rest
after_word_spelled Keywords.Else ts rest s = ap (after_word Keywords.Else) s.1
after_word_spelled Keywords.While ts rest s = ap (after_word Keywords.While) s.1
after_word_spelled Keywords.Void ts rest s = ap (after_word Keywords.Void) s.1

-- ## Declared names

pub declared_finds : (member : Bool) (types : List Name) (ts : List Token) (x : (Name × Place) × List Token) → declared_at member types ts ≡ Some x → SpellsDeclaredName member types x.0.0 x.0.1 ts x.1
declared_finds member types ts x e =
    let a = then_read_some (name_at ts) (λ n rest. cond (member || not (is_typedef types n.0)) (Some (n, rest)) None) x e in
    let b = cond_some (member || not (is_typedef types a.0.0.0)) (Some (a.0.0, a.0.1)) x a.2 in
    subst (λ (y : (Name × Place) × List Token). SpellsDeclaredName member types y.0.0 y.0.1 ts y.1) (from_some b.1) (go member b.0 (name_at_finds ts a.0 a.1))
  where
    go : (member : Bool) {n : Name} {p : Place} {rest : List Token} → member || not (is_typedef types n) ≡ true → Begins (Shapes.Name n) p ts rest → SpellsDeclaredName member types n p ts rest
    go true e s = s
    go false {n} e s = (not_true (is_typedef types n) e, s)

pub declared_spelled : (member : Bool) (types : List Name) (n : Name) (p : Place) (ts rest : List Token) → SpellsDeclaredName member types n p ts rest → declared_at member types ts ≡ Some ((n, p), rest)
declared_spelled true types n p ts rest s = ap (declared_at true types) s
declared_spelled false types n p ts rest s = ap (declared_at false types) s.1 ∙ ap (λ b. cond (not b) (Some ((n, p), rest)) None) s.0
