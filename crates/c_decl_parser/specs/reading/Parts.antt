-- What the readers of files share: marks and words, expressions, and what a contract sees of an answer.
use Rattle.std.specs.Prelude.{ℕ, Bool, true, false, not, cond, ◌&&◌, ◌||◌, nat_le, max, List, [], ◌∷◌, Option, Some}
use Rattle.std.specs.Prelude.{None}
use Rattle.tm_terms.specs.declared.places.Place.{Place}
use Rattle.tm_terms.specs.declared.tokens.Name.{Name}
use Rattle.tm_terms.specs.declared.tokens.Word.TheVariants as Words
use Rattle.tm_terms.specs.declared.tokens.Shape.{Shape}
use Rattle.tm_terms.specs.declared.tokens.Shape.TheVariants as Shapes
use Rattle.tm_terms.specs.declared.tokens.Token.{Token}
use Rattle.tm_terms.specs.Names.{is_typedef}
use Rattle.tm_terms.specs.ExprTrees.{Tree, height}
use Rattle.tm_terms.specs.ExprSpelling.{continued_level}
use Rattle.c_expr_parser.specs.declared.marks.Mark.{Mark}
use Rattle.c_expr_parser.specs.declared.marks.Mark.TheVariants as Marks
use Rattle.c_expr_parser.specs.reading.Descent.{reads}
use Rattle.c_expr_parser.specs.reading.Parts.{then_read, and_after, is_mark, after, name_at}
use Rattle.c_decl_parser.specs.declared.tokens.Keyword.{Keyword}
use Rattle.c_decl_parser.specs.declared.tokens.Keyword.TheVariants as Keywords
use Rattle.c_decl_parser.specs.declared.reads.Read.{Read}
use Rattle.c_decl_parser.specs.declared.reads.Read.TheVariants.{Found, Stuck}

-- what was read, as a contract sees it, and the tokens after it
abbrev pub seen : {A B : Type 0} → (A → B) → Read A → Option (B × List Token)
seen view (Found x rest) = Some (view x, rest.now)
seen view (Stuck rest) = None

-- ## First tokens

-- the place of the mark that comes first, and what follows it
abbrev pub place_after : Mark → List Token → Option (Place × List Token)
place_after mark [] = None
place_after mark (t ∷ ts) = cond (is_mark mark t.shape) (Some (t.place, ts)) None

abbrev pub is_keyword : Keyword → Shape → Bool
is_keyword Keywords.Else (Shapes.Word Words.Else) = true
is_keyword Keywords.While (Shapes.Word Words.While) = true
is_keyword Keywords.Void (Shapes.Word Words.Void) = true
is_keyword _ _ = false

-- what follows the word, if it comes first
abbrev pub after_word : Keyword → List Token → Option (List Token)
after_word word [] = None
after_word word (t ∷ ts) = cond (is_keyword word t.shape) (Some ts) None

-- a name that may be declared: that of a member may be any
abbrev pub declared_at : Bool → List Name → List Token → Option ((Name × Place) × List Token)
declared_at member types ts =
    then_read (name_at ts) (λ n rest. cond (member || not (is_typedef types n.0)) (Some (n, rest)) None)

-- ## Expressions

-- the first token goes on an expression of this level or a tighter one
abbrev pub continues_by : ℕ → Option ℕ → Bool
continues_by at None = false
continues_by at (Some found) = nat_le at found

abbrev pub continues : ℕ → List Token → Bool
continues at [] = false
continues at (t ∷ ts) = continues_by at (continued_level t.shape)

abbrev pub settled : ℕ → ℕ → Option (Tree × List Token) → Option (Tree × List Token)
settled allowed at None = None
settled allowed at (Some x) = cond (nat_le (height x.0) allowed && not (continues at x.1)) (Some x) None

-- An expression at a level, of at most the allowed height, that the token after it does not go on. It is looked for
-- among those of height
-- at most 500, or of the allowed height where that is greater.
unfoldable pub expression : List Name → ℕ → ℕ → List Token → Option (Tree × List Token)
expression types allowed at ts = settled allowed at (reads types (max 500 allowed) at ts)

abbrev pub until_by : List Name → ℕ → ℕ → Mark → Option (List Token) → List Token → Option (Option Tree × List Token)
until_by types allowed at mark (Some rest) ts = Some (None, rest)
until_by types allowed at mark None ts =
    then_read (expression types allowed at ts) (λ t a. and_after (after mark a) (λ rest. Some (Some t, rest)))

-- an expression, or nothing, and the mark
unfoldable pub until : List Name → ℕ → ℕ → Mark → List Token → Option (Option Tree × List Token)
until types allowed at mark ts = until_by types allowed at mark (after mark ts) ts

-- an expression in parentheses
unfoldable pub in_parentheses : List Name → ℕ → List Token → Option (Tree × List Token)
in_parentheses types allowed ts = and_after (after Marks.OpenParenthesis ts) (λ a.
    then_read (expression types allowed 0 a) (λ t b.
    and_after (after Marks.CloseParenthesis b) (λ rest. Some (t, rest))))
