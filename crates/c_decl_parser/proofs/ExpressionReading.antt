-- Expressions inside declarations and statements: what is read is spelled, and what is spelled is read.
use Rattle.std.proofs.Common.{◌≡◌, ℕ, ◌≤◌, Bool, true, false, cond, List, [], ◌∷◌, Option, Some, None, refl, sym, ap, ◌∙◌, subst, arith}
use Rattle.std.specs.Prelude.{not, ◌&&◌, nat_le, max, MatchOption}
use Rattle.tm_terms.specs.declared.tokens.Name.{Name}
use Rattle.tm_terms.specs.declared.tokens.Sign.TheVariants as Signs
use Rattle.tm_terms.specs.declared.tokens.Token.{Token}
use Rattle.tm_terms.specs.ExprTrees.{Tree, height}
use Rattle.tm_terms.specs.ExprSpelling.{BySign, Spells, GoesOn, IsFront, continued_level}
use Rattle.c_expr_parser.specs.declared.marks.Mark.{Mark}
use Rattle.c_expr_parser.specs.declared.marks.Mark.TheVariants as Marks
use Rattle.c_expr_parser.specs.reading.Descent.{reads}
use Rattle.c_expr_parser.specs.reading.Parts.{then_read, and_after, after}
use Rattle.std.proofs.lemmas.Bool.Decides.{nat_tests}
use Rattle.tm_terms.specs.declared.places.Place.{Place}
use Rattle.tm_terms.specs.declared.tokens.Shape.{Shape}
use Rattle.tm_terms.specs.declared.tokens.Shape.TheVariants as Shapes
use Rattle.c_expr_parser.specs.reading.Parts.{is_mark}
use Rattle.c_expr_parser.proofs.FirstTokens.{Starts, by_operator, started}
use Rattle.c_expr_parser.proofs.Tokens.{mark_sign, none_some, from_some, after_finds, after_spelled, then_read_some, and_after_some, cond_some, and_true, and_both}
use Rattle.c_expr_parser.proofs.Sound.{le_true}
use Rattle.c_expr_parser.proofs.SoundSteps.{reads_sound}
use Rattle.c_expr_parser.proofs.CompleteForms.{exactly}
use Rattle.c_expr_parser.proofs.CompleteSteps.{reads_complete}
use Rattle.tm_trees.specs.DeclarationTrees.{optional_height}
use Rattle.tm_trees.specs.DeclarationSpelling.{SpellsAt, SpellsOptional}
use Rattle.c_decl_parser.specs.reading.Parts.{continues_by, continues, settled, expression, until_by, until, in_parentheses}
use Rattle.c_decl_parser.proofs.MarkReading.{first_shape, least_stop, mark_stops}

-- what is read is spelled, and within the height
pub expression_sound : (types : List Name) (allowed at : ℕ) (ts : List Token) (x : Tree × List Token) → expression types allowed at ts ≡ Some x → SpellsAt types at x.0 ts x.1 × (height x.0 ≤ allowed)
unfolding expression
expression_sound types allowed at ts x e = go (reads types (max 500 allowed) at ts) refl e
  where
    go : (o : Option (Tree × List Token)) → reads types (max 500 allowed) at ts ≡ o → settled allowed at o ≡ Some x → SpellsAt types at x.0 ts x.1 × (height x.0 ≤ allowed)
    go None o e = none_some e
    go (Some y) o e =
        let c = cond_some (nat_le (height y.0) allowed && not (continues at y.1)) (Some y) x e in
        let b = and_true (nat_le (height y.0) allowed) (not (continues at y.1)) c.0 in
        let f = reads_sound types (max 500 allowed) at ts y o in
        subst (λ (z : Tree × List Token). SpellsAt types at z.0 ts z.1 × (height z.0 ≤ allowed)) (from_some c.1) ((f.spelled, f.fits), le_true _ _ b.0)

pub true_le : (m n : ℕ) → m ≤ n → nat_le m n ≡ true
true_le m n le = grind (arith, nat_tests)

not_continued : (at : ℕ) (ts : List Token) → (GoesOn at ts → ⊥) → continues at ts ≡ false
not_continued at [] stops = refl
not_continued at (t ∷ ts) stops = go (continued_level t.shape) stops
  where
    no_le : (n : ℕ) → (at ≤ n → ⊥) → nat_le at n ≡ false
    no_le n stops = grind (arith, nat_tests)

    go : (o : Option ℕ) → (MatchOption o ⊥ (λ found. at ≤ found) → ⊥) → continues_by at o ≡ false
    go None stops = refl
    go (Some found) stops = no_le found stops

-- what is spelled within the height is read where the token after it does not go on
pub expression_complete : (types : List Name) (allowed at : ℕ) (ts : List Token) (t : Tree) (rest : List Token) → SpellsAt types at t ts rest → height t ≤ allowed → (GoesOn at rest → ⊥) → expression types allowed at ts ≡ Some (t, rest)
unfolding expression
expression_complete types allowed at ts t rest s low stops =
    let n = max 500 allowed in
    let f : IsFront types at n ts t rest = record { spelled = s.0; fits = s.1; low = omega (arith, low) } in
    ap (settled allowed at) (exactly types (reads types n) n (reads_sound types n) (reads_complete types n) at ts t rest f stops)
    ∙ ap (λ b. cond b (Some (t, rest)) None) (and_both (nat_le (height t) allowed) (not (continues at rest)) (true_le (height t) allowed low) (ap not (not_continued at rest stops)))

starts_mark : (types : List Name) (mark : Mark) → Starts types (Shapes.Sign (mark_sign mark)) → mark ≡ Marks.OpenParenthesis
starts_mark types Marks.OpenParenthesis s = refl
starts_mark types Marks.CloseParenthesis (by_operator op e) = none_some e
starts_mark types Marks.OpenBracket (by_operator op e) = none_some e
starts_mark types Marks.CloseBracket (by_operator op e) = none_some e
starts_mark types Marks.OpenBrace (by_operator op e) = none_some e
starts_mark types Marks.CloseBrace (by_operator op e) = none_some e
starts_mark types Marks.Colon (by_operator op e) = none_some e
starts_mark types Marks.Comma (by_operator op e) = none_some e
starts_mark types Marks.Semicolon (by_operator op e) = none_some e
starts_mark types Marks.Equal (by_operator op e) = none_some e

-- an expression begins with no mark but `(`, so with none that ends expressions of every level
pub no_mark : (types : List Name) (mark : Mark) (t : Tree) (ts rest : List Token) → (mark ≡ Marks.OpenParenthesis → ⊥) → Spells types t ts rest → after mark ts ≡ None
no_mark types mark t ts rest differs s =
    let a = started types t ts rest s in
    ap (after mark) a.3 ∙ go a.0 a.1 a.2 a.4 (is_mark mark a.0) refl
  where
    go : (shape : Shape) (p : Place) (b : List Token) → Starts types shape → (c : Bool) → is_mark mark shape ≡ c → cond c (Some b) None ≡ None
    go shape p b starts false h = refl
    go shape p b starts true h =
        let found = after_finds mark ((record { shape = shape; place = p }) ∷ b) b (ap (λ c. cond c (Some b) None) h) in
        absurd (differs (starts_mark types mark (subst (Starts types) (ap (first_shape shape) found.1) starts)))

-- an expression or nothing, and the mark
abbrev pub UntilRead : List Name → ℕ → ℕ → Mark → List Token → Option Tree × List Token → Type 0
UntilRead types allowed at mark ts x = (a : List Token) × SpellsOptional types at x.0 ts a × BySign (mark_sign mark) a x.1 × (optional_height x.0 ≤ allowed)

pub until_sound : (types : List Name) (allowed at : ℕ) (mark : Mark) (ts : List Token) (x : Option Tree × List Token) → until types allowed at mark ts ≡ Some x → UntilRead types allowed at mark ts x
unfolding until
until_sound types allowed at mark ts x e = go (after mark ts) refl e
  where
    go : (o : Option (List Token)) → after mark ts ≡ o → until_by types allowed at mark o ts ≡ Some x → UntilRead types allowed at mark ts x
    go (Some rest) h e = subst (UntilRead types allowed at mark ts) (from_some e) (ts, refl, after_finds mark ts rest h, omega arith)
    go None h e =
        let a = then_read_some (expression types allowed at ts) (λ t a. and_after (after mark a) (λ rest. Some (Some t, rest))) x e in
        let b = and_after_some (after mark a.0.1) (λ rest. Some (Some a.0.0, rest)) x a.2 in
        let f = expression_sound types allowed at ts a.0 a.1 in
        subst (UntilRead types allowed at mark ts) (from_some b.2) (a.0.1, f.0, after_finds mark a.0.1 b.0 b.1, f.1)

-- the mark goes on nothing
pub until_complete : (types : List Name) (allowed at : ℕ) (mark : Mark) (o : Option Tree) (ts a rest : List Token) → least_stop mark ≡ 0 → SpellsOptional types at o ts a → BySign (mark_sign mark) a rest → optional_height o ≤ allowed → until types allowed at mark ts ≡ Some (o, rest)
unfolding until
until_complete types allowed at mark None ts a rest ends s m low =
    ap (λ o. until_by types allowed at mark o ts) (after_spelled mark ts rest (subst (λ l. BySign (mark_sign mark) l rest) (sym s) m))
until_complete types allowed at mark (Some t) ts a rest ends s m low =
    let e : 0 ≡ least_stop mark = sym ends in
    ap (λ o. until_by types allowed at mark o ts) (no_mark types mark t ts a (λ p. let f : 0 ≡ 17 = e ∙ ap least_stop p in absurd (omega arith)) s.0)
    ∙ ap (λ o. then_read o (λ t a. and_after (after mark a) (λ rest. Some (Some t, rest)))) (expression_complete types allowed at ts t a s low (mark_stops mark at a rest (omega (arith, e)) m))
    ∙ ap (λ o. and_after o (λ rest. Some (Some t, rest))) (after_spelled mark a rest m)

-- an expression in parentheses
pub in_parentheses_sound : (types : List Name) (allowed : ℕ) (ts : List Token) (x : Tree × List Token) → in_parentheses types allowed ts ≡ Some x → (a : List Token) × (b : List Token) × BySign Signs.OpenParenthesis ts a × Spells types x.0 a b × BySign Signs.CloseParenthesis b x.1 × (height x.0 ≤ allowed)
unfolding in_parentheses
in_parentheses_sound types allowed ts x e =
    let a = and_after_some (after Marks.OpenParenthesis ts) (λ a. then_read (expression types allowed 0 a) (λ t b. and_after (after Marks.CloseParenthesis b) (λ rest. Some (t, rest)))) x e in
    let b = then_read_some (expression types allowed 0 a.0) (λ t b. and_after (after Marks.CloseParenthesis b) (λ rest. Some (t, rest))) x a.2 in
    let c = and_after_some (after Marks.CloseParenthesis b.0.1) (λ rest. Some (b.0.0, rest)) x b.2 in
    let f = expression_sound types allowed 0 a.0 b.0 b.1 in
    subst (λ (y : Tree × List Token). (a : List Token) × (b : List Token) × BySign Signs.OpenParenthesis ts a × Spells types y.0 a b × BySign Signs.CloseParenthesis b y.1 × (height y.0 ≤ allowed)) (from_some {x = (b.0.0, c.0)} c.2)
    (a.0, b.0.1, after_finds Marks.OpenParenthesis ts a.0 a.1, f.0.0, after_finds Marks.CloseParenthesis b.0.1 c.0 c.1, f.1)

pub in_parentheses_complete : (types : List Name) (allowed : ℕ) (t : Tree) (ts a b rest : List Token) → BySign Signs.OpenParenthesis ts a → Spells types t a b → BySign Signs.CloseParenthesis b rest → height t ≤ allowed → in_parentheses types allowed ts ≡ Some (t, rest)
unfolding in_parentheses
in_parentheses_complete types allowed t ts a b rest open_is s close low =
    ap (λ o. and_after o (λ a. then_read (expression types allowed 0 a) (λ t b. and_after (after Marks.CloseParenthesis b) (λ rest. Some (t, rest))))) (after_spelled Marks.OpenParenthesis ts a open_is)
    ∙ ap (λ o. then_read o (λ t b. and_after (after Marks.CloseParenthesis b) (λ rest. Some (t, rest)))) (expression_complete types allowed 0 a t b (s, omega arith) low (mark_stops Marks.CloseParenthesis 0 b rest (omega arith) close))
    ∙ ap (λ o. and_after o (λ rest. Some (t, rest))) (after_spelled Marks.CloseParenthesis b rest close)
