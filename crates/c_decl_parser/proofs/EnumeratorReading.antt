-- Enumeration constants: what is read is spelled, and what is spelled is read.
use Rattle.std.proofs.Common.{◌≡◌, ℕ, zero, suc, ◌<◌, ◌≤◌, false, List, [], ◌∷◌, length, Option, Some, None, refl, ap, ◌∙◌, subst, arith}
use Rattle.tm_terms.specs.declared.tokens.Name.{Name}
use Rattle.tm_terms.specs.declared.tokens.Sign.TheVariants as Signs
use Rattle.tm_terms.specs.declared.tokens.Shape.TheVariants as Shapes
use Rattle.tm_terms.specs.declared.tokens.Token.{Token}
use Rattle.tm_terms.specs.ExprTrees.{Tree}
use Rattle.tm_terms.specs.ExprSpelling.{GoesOn}
use Rattle.c_expr_parser.specs.declared.marks.Mark.TheVariants as Marks
use Rattle.c_expr_parser.specs.reading.Parts.{then_read, after}
use Rattle.c_expr_parser.proofs.Tokens.{none_some, from_some, after_finds, after_spelled, then_read_some, begins_shorter}
use Rattle.c_expr_parser.proofs.Sound.{shorter, by_shorter}
use Rattle.tm_trees.specs.DeclarationTrees.{EnumeratorTree, optional_height, enumerators_height}
use Rattle.tm_trees.specs.DeclarationSpelling.{SpellsConstant, SpellsEnumerator, SpellsMoreEnumerators, SpellsEnumerators}
use Rattle.c_decl_parser.specs.reading.Parts.{declared_at, expression}
use Rattle.c_decl_parser.specs.reading.Repetitions.{in_braces}
use Rattle.c_decl_parser.specs.reading.DeclarationDescent.{constant_by, constant, enumerator}
use Rattle.c_decl_parser.proofs.MarkReading.{declared_finds, declared_spelled, mark_stops}
use Rattle.c_decl_parser.proofs.ExpressionReading.{expression_sound, expression_complete}
use Rattle.c_decl_parser.proofs.RepetitionReading.{Relation, Braced, InBraces, in_braces_sound, in_braces_complete}
use Rattle.c_decl_parser.proofs.ValueReading.{braces_shorter}

-- a constant within the height
abbrev IsEnumerator : List Name → ℕ → Relation EnumeratorTree
IsEnumerator types allowed e ts rest = SpellsEnumerator types e ts rest × (suc (optional_height e.value) ≤ allowed)

-- ## Lists of constants

more_spelled : (types : List Name) (allowed : ℕ) (enumerators : List EnumeratorTree) (ts rest : List Token) → Braced (IsEnumerator types allowed) enumerators ts rest → SpellsMoreEnumerators types enumerators ts rest × (enumerators_height enumerators ≤ allowed)
more_spelled types allowed [] ts rest s = (s, omega arith)
more_spelled types allowed (e ∷ enumerators) ts rest s =
    let r = more_spelled types allowed enumerators s.1 rest s.4 in ((s.0, s.1, s.2, s.3.0, r.0), omega (arith, s.3.1, r.1))

all_spelled : (types : List Name) (allowed : ℕ) (enumerators : List EnumeratorTree) (ts rest : List Token) → InBraces (IsEnumerator types allowed) enumerators ts rest → SpellsEnumerators types enumerators ts rest × (enumerators_height enumerators ≤ allowed)
all_spelled types allowed [] ts rest s = absurd s
all_spelled types allowed (e ∷ enumerators) ts rest s =
    let r = more_spelled types allowed enumerators s.0 rest s.2 in ((s.0, s.1.0, r.0), omega (arith, s.1.1, r.1))

more_listed : (types : List Name) (allowed : ℕ) (enumerators : List EnumeratorTree) (ts rest : List Token) → SpellsMoreEnumerators types enumerators ts rest → enumerators_height enumerators ≤ allowed → Braced (IsEnumerator types allowed) enumerators ts rest
more_listed types allowed [] ts rest s low = s
more_listed types allowed (e ∷ enumerators) ts rest s low =
    (s.0, s.1, s.2, (s.3, omega arith), more_listed types allowed enumerators s.1 rest s.4 (omega arith))

all_listed : (types : List Name) (allowed : ℕ) (enumerators : List EnumeratorTree) (ts rest : List Token) → SpellsEnumerators types enumerators ts rest → enumerators_height enumerators ≤ allowed → InBraces (IsEnumerator types allowed) enumerators ts rest
all_listed types allowed [] ts rest s low = absurd s
all_listed types allowed (e ∷ enumerators) ts rest s low =
    (s.0, (s.1, omega arith), more_listed types allowed enumerators s.0 rest s.2 (omega arith))

-- ## Lengths

constant_shorter : (types : List Name) (o : Option Tree) (ts rest : List Token) → SpellsConstant types o ts rest → length rest ≤ length ts
constant_shorter types None ts rest s = let n : length ts ≡ length rest = ap length s in omega arith
constant_shorter types (Some t) ts rest s =
    let a = by_shorter Signs.Equal ts s.0 s.1 in let b = shorter types t s.0 rest s.2.0 in omega arith

enumerator_shorter : (types : List Name) (e : EnumeratorTree) (ts rest : List Token) → SpellsEnumerator types e ts rest → length rest < length ts
enumerator_shorter types e ts rest s =
    let a = begins_shorter (Shapes.Name e.name) e.place ts s.0 s.1.1 in let b = constant_shorter types e.value s.0 rest s.2 in omega arith

more_shorter : (types : List Name) (enumerators : List EnumeratorTree) (ts rest : List Token) → SpellsMoreEnumerators types enumerators ts rest → length rest < length ts
more_shorter types [] ts rest s = braces_shorter ts rest s
more_shorter types (e ∷ enumerators) ts rest s =
    let a = by_shorter Signs.Comma ts s.0 s.2 in let b = enumerator_shorter types e s.0 s.1 s.3 in
    let c = more_shorter types enumerators s.1 rest s.4 in omega arith

pub enumerators_shorter : (types : List Name) (enumerators : List EnumeratorTree) (ts rest : List Token) → SpellsEnumerators types enumerators ts rest → length rest < length ts
enumerators_shorter types [] ts rest s = absurd s
enumerators_shorter types (e ∷ enumerators) ts rest s =
    let a = enumerator_shorter types e ts s.0 s.1 in let b = more_shorter types enumerators s.0 rest s.2 in omega arith

-- ## What is read is spelled

constant_sound : (types : List Name) (allowed : ℕ) (ts : List Token) (x : Option Tree × List Token) → constant types allowed ts ≡ Some x → SpellsConstant types x.0 ts x.1 × (optional_height x.0 ≤ allowed)
unfolding constant
constant_sound types allowed ts x e = go (after Marks.Equal ts) refl e
  where
    go : (o : Option (List Token)) → after Marks.Equal ts ≡ o → constant_by types allowed o ts ≡ Some x → SpellsConstant types x.0 ts x.1 × (optional_height x.0 ≤ allowed)
    go None h e = subst (λ (y : Option Tree × List Token). SpellsConstant types y.0 ts y.1 × (optional_height y.0 ≤ allowed)) (from_some e) (refl, omega arith)
    go (Some a) h e =
        let b = then_read_some (expression types allowed 2 a) (λ t rest. Some (Some t, rest)) x e in
        let f = expression_sound types allowed 2 a b.0 b.1 in
        subst (λ (y : Option Tree × List Token). SpellsConstant types y.0 ts y.1 × (optional_height y.0 ≤ allowed)) (from_some b.2) ((a, after_finds Marks.Equal ts a h, f.0), f.1)

enumerator_sound : (types : List Name) (allowed : ℕ) (ts : List Token) (x : EnumeratorTree × List Token) → enumerator types allowed ts ≡ Some x → IsEnumerator types allowed x.0 ts x.1
unfolding enumerator
enumerator_sound types zero ts x e = none_some e
enumerator_sound types (suc h) ts x e =
    let a = then_read_some (declared_at false types ts) (λ n a. then_read (constant types h a) (λ value rest. Some (record { name = n.0; value = value; place = n.1 }, rest))) x e in
    let b = then_read_some (constant types h a.0.1) (λ value rest. Some (record { name = a.0.0.0; value = value; place = a.0.0.1 }, rest)) x a.2 in
    let c = constant_sound types h a.0.1 b.0 b.1 in
    subst (λ (y : EnumeratorTree × List Token). IsEnumerator types (suc h) y.0 ts y.1) (from_some b.2) ((a.0.1, declared_finds false types ts a.0 a.1, c.0), omega (arith, c.1))

pub enumerators_sound : (types : List Name) (allowed : ℕ) (ts : List Token) (x : List EnumeratorTree × List Token) → in_braces (enumerator types allowed) ts ≡ Some x → SpellsEnumerators types x.0 ts x.1 × (enumerators_height x.0 ≤ allowed)
enumerators_sound types allowed ts x e =
    all_spelled types allowed x.0 ts x.1 (in_braces_sound (IsEnumerator types allowed) (enumerator types allowed) (enumerator_sound types allowed) ts x e)

-- ## What is spelled is read

-- neither an operator of a condition or a tighter one follows, nor a `=`
abbrev StopsConstant : List Token → Type 0
StopsConstant ts = (GoesOn 2 ts → ⊥) × (after Marks.Equal ts ≡ None)

constant_complete : (types : List Name) (allowed : ℕ) (o : Option Tree) (ts rest : List Token) → SpellsConstant types o ts rest → optional_height o ≤ allowed → StopsConstant rest → constant types allowed ts ≡ Some (o, rest)
unfolding constant
constant_complete types allowed None ts rest s low stops =
    ap (λ o. constant_by types allowed o ts) (ap (after Marks.Equal) s ∙ stops.1) ∙ ap (λ r. Some (None, r)) s
constant_complete types allowed (Some t) ts rest s low stops =
    ap (λ o. constant_by types allowed o ts) (after_spelled Marks.Equal ts s.0 s.1)
    ∙ ap (λ o. then_read o (λ t rest. Some (Some t, rest))) (expression_complete types allowed 2 s.0 t rest s.2 low stops.0)

enumerator_complete : (types : List Name) (allowed : ℕ) (e : EnumeratorTree) (ts rest : List Token) → IsEnumerator types allowed e ts rest → StopsConstant rest → enumerator types allowed ts ≡ Some (e, rest)
unfolding enumerator
enumerator_complete types zero e ts rest s stops = absurd (omega (arith, s.1))
enumerator_complete types (suc h) e ts rest s stops =
    ap (λ o. then_read o (λ n a. then_read (constant types h a) (λ value rest. Some (record { name = n.0; value = value; place = n.1 }, rest)))) (declared_spelled false types e.name e.place ts s.0.0 s.0.1)
    ∙ ap (λ o. then_read o (λ value rest. Some (record { name = e.name; value = value; place = e.place }, rest))) (constant_complete types h e.value s.0.0 rest s.0.2 (omega (arith, s.1)) stops)

pub enumerators_complete : (types : List Name) (allowed : ℕ) (enumerators : List EnumeratorTree) (ts rest : List Token) → SpellsEnumerators types enumerators ts rest → enumerators_height enumerators ≤ allowed → in_braces (enumerator types allowed) ts ≡ Some (enumerators, rest)
enumerators_complete types allowed enumerators ts rest s low =
    in_braces_complete (IsEnumerator types allowed) StopsConstant (enumerator types allowed) (enumerator_complete types allowed) (λ e a b q. enumerator_shorter types e a b q.0)
    (λ a b q. (mark_stops Marks.Comma 2 a b (omega arith) q, ap (after Marks.Equal) q.1)) (λ a b q. (mark_stops Marks.CloseBrace 2 a b (omega arith) q, ap (after Marks.Equal) q.1))
    (λ e a b q. ap (after Marks.CloseBrace) q.0.1.1) enumerators ts rest (all_listed types allowed enumerators ts rest s low)
