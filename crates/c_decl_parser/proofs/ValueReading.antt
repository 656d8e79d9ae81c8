-- Values of objects: what is read is spelled, and what is spelled is read.
use Rattle.std.proofs.Common.{◌≡◌, ℕ, zero, suc, ◌<◌, ◌≤◌, List, [], ◌∷◌, length, Option, Some, None, refl, sym, ap, ◌∙◌, subst, inl, inr, arith}
use Rattle.tm_terms.specs.declared.tokens.Name.{Name}
use Rattle.tm_terms.specs.declared.tokens.Token.{Token}
use Rattle.tm_terms.specs.declared.places.Place.{Place}
use Rattle.tm_terms.specs.declared.tokens.Sign.TheVariants as Signs
use Rattle.tm_terms.specs.declared.tokens.Shape.TheVariants as Shapes
use Rattle.tm_terms.specs.ExprSpelling.{GoesOn}
use Rattle.c_expr_parser.specs.declared.marks.Mark.TheVariants as Marks
use Rattle.c_expr_parser.specs.reading.Parts.{then_read, after}
use Rattle.c_expr_parser.proofs.Tokens.{none_some, from_some, after_finds, then_read_some, begins_shorter}
use Rattle.c_expr_parser.proofs.LevelFacts.{has_height}
use Rattle.c_expr_parser.proofs.Sound.{shorter, by_shorter}
use Rattle.tm_trees.specs.DeclarationTrees.{ValueTree, an_expression, a_list, ValueTrees, no_values, and_value, as_values, value_height, values_height, InitialiserTree, initialiser_height}
use Rattle.tm_trees.specs.DeclarationSpelling.{EndsBraces, SpellsValue, SpellsValues, SpellsMoreValues, SpellsInitialiser}
use Rattle.c_decl_parser.specs.reading.Parts.{place_after, expression}
use Rattle.c_decl_parser.specs.reading.Repetitions.{in_braces}
use Rattle.c_decl_parser.specs.reading.DeclarationDescent.{value_by, value, initialiser_by, initialiser}
use Rattle.c_decl_parser.proofs.MarkReading.{place_after_finds, place_after_spelled, place_after_none, mark_stops}
use Rattle.c_decl_parser.proofs.ExpressionReading.{expression_sound, expression_complete, no_mark}
use Rattle.c_decl_parser.proofs.RepetitionReading.{Relation, Braced, InBraces, ReadsOnly, in_braces_sound, in_braces_complete}

-- ## Lists of values

abbrev value_list : ValueTrees → List ValueTree
value_list no_values = []
value_list (and_value v values) = v ∷ value_list values

as_value_list : (values : ValueTrees) → as_values (value_list values) ≡ values
as_value_list no_values = refl
as_value_list (and_value v values) = ap (and_value v) (as_value_list values)

-- a value within the height
abbrev IsValue : List Name → ℕ → Relation ValueTree
IsValue types allowed v ts rest = SpellsValue types v ts rest × (value_height v ≤ allowed)

more_spelled : (types : List Name) (allowed : ℕ) (values : List ValueTree) (ts rest : List Token) → Braced (IsValue types allowed) values ts rest → SpellsMoreValues types (as_values values) ts rest × (values_height (as_values values) ≤ allowed)
more_spelled types allowed [] ts rest s = (s, omega arith)
more_spelled types allowed (v ∷ values) ts rest s =
    let r = more_spelled types allowed values s.1 rest s.4 in ((s.0, s.1, s.2, s.3.0, r.0), omega (arith, s.3.1, r.1))

all_spelled : (types : List Name) (allowed : ℕ) (values : List ValueTree) (ts rest : List Token) → InBraces (IsValue types allowed) values ts rest → SpellsValues types (as_values values) ts rest × (values_height (as_values values) ≤ allowed)
all_spelled types allowed [] ts rest s = absurd s
all_spelled types allowed (v ∷ values) ts rest s =
    let r = more_spelled types allowed values s.0 rest s.2 in ((s.0, s.1.0, r.0), omega (arith, s.1.1, r.1))

more_listed : (types : List Name) (allowed : ℕ) (values : ValueTrees) (ts rest : List Token) → SpellsMoreValues types values ts rest → values_height values ≤ allowed → Braced (IsValue types allowed) (value_list values) ts rest
more_listed types allowed no_values ts rest s low = s
more_listed types allowed (and_value v values) ts rest s low =
    (s.0, s.1, s.2, (s.3, omega arith), more_listed types allowed values s.1 rest s.4 (omega arith))

all_listed : (types : List Name) (allowed : ℕ) (values : ValueTrees) (ts rest : List Token) → SpellsValues types values ts rest → values_height values ≤ allowed → InBraces (IsValue types allowed) (value_list values) ts rest
all_listed types allowed no_values ts rest s low = absurd s
all_listed types allowed (and_value v values) ts rest s low =
    (s.0, (s.1, omega arith), more_listed types allowed values s.0 rest s.2 (omega arith))

-- ## What a value begins with, and its length

pub braces_shorter : (ts rest : List Token) → EndsBraces ts rest → length rest < length ts
braces_shorter ts rest (inl s) = by_shorter Signs.CloseBrace ts rest s
braces_shorter ts rest (inr s) =
    let a = by_shorter Signs.Comma ts s.0 s.1 in let b = by_shorter Signs.CloseBrace s.0 rest s.2 in omega arith

mutual
  pub value_shorter : (types : List Name) (v : ValueTree) (ts rest : List Token) → SpellsValue types v ts rest → length rest < length ts
  value_shorter types (an_expression t) ts rest s = shorter types t ts rest s.0
  value_shorter types (a_list values p) ts rest s =
      let a = begins_shorter (Shapes.Sign Signs.OpenBrace) p ts s.0 s.1 in let b = values_shorter types values s.0 rest s.2 in omega arith

  values_shorter : (types : List Name) (values : ValueTrees) (ts rest : List Token) → SpellsValues types values ts rest → length rest < length ts
  values_shorter types no_values ts rest s = absurd s
  values_shorter types (and_value v values) ts rest s =
      let a = value_shorter types v ts s.0 s.1 in let b = more_values_shorter types values s.0 rest s.2 in omega arith

  more_values_shorter : (types : List Name) (values : ValueTrees) (ts rest : List Token) → SpellsMoreValues types values ts rest → length rest < length ts
  more_values_shorter types no_values ts rest s = braces_shorter ts rest s
  more_values_shorter types (and_value v values) ts rest s =
      let a = by_shorter Signs.Comma ts s.0 s.2 in let b = value_shorter types v s.0 s.1 s.3 in
      let c = more_values_shorter types values s.1 rest s.4 in omega arith

value_begins : (types : List Name) (v : ValueTree) (ts rest : List Token) → SpellsValue types v ts rest → after Marks.CloseBrace ts ≡ None
value_begins types (an_expression t) ts rest s = no_mark types Marks.CloseBrace t ts rest (λ e. cc) s.0
value_begins types (a_list vs p) ts rest s = ap (after Marks.CloseBrace) s.1

value_has_height : (v : ValueTree) → 1 ≤ value_height v
value_has_height (an_expression t) = has_height t
value_has_height (a_list vs p) = omega arith

pub initialiser_shorter : (types : List Name) (i : Option InitialiserTree) (ts rest : List Token) → SpellsInitialiser types i ts rest → length rest ≤ length ts
initialiser_shorter types None ts rest s = let n : length ts ≡ length rest = ap length s in omega arith
initialiser_shorter types (Some i) ts rest s =
    let a = begins_shorter (Shapes.Sign Signs.Equal) i.place ts s.0 s.1 in let b = value_shorter types i.value s.0 rest s.2 in omega arith

-- ## What is read is spelled

pub value_sound : (types : List Name) (allowed : ℕ) (ts : List Token) (x : ValueTree × List Token) → value types allowed ts ≡ Some x → IsValue types allowed x.0 ts x.1
unfolding value
value_sound types zero ts x e = none_some e
value_sound types (suc h) ts x e = go (place_after Marks.OpenBrace ts) refl (λ a y. value_sound types h a y) e
  where
    go : (o : Option (Place × List Token)) → place_after Marks.OpenBrace ts ≡ o → ReadsOnly (IsValue types h) (value types h) → value_by types h (value types h) o ts ≡ Some x → IsValue types (suc h) x.0 ts x.1
    go None h0 ih e =
        let a = then_read_some (expression types (suc h) 1 ts) (λ t rest. Some (an_expression t, rest)) x e in
        let f = expression_sound types (suc h) 1 ts a.0 a.1 in
        subst (λ (y : ValueTree × List Token). IsValue types (suc h) y.0 ts y.1) (from_some a.2) (f.0, f.1)
    go (Some y) h0 ih e =
        let a = then_read_some (in_braces (value types h) y.1) (λ values rest. Some (a_list (as_values values) y.0, rest)) x e in
        let r = all_spelled types h a.0.0 y.1 a.0.1 (in_braces_sound (IsValue types h) (value types h) ih y.1 a.0 a.1) in
        subst (λ (z : ValueTree × List Token). IsValue types (suc h) z.0 ts z.1) (from_some a.2) ((y.1, place_after_finds Marks.OpenBrace ts y h0, r.0), omega (arith, r.1))

pub initialiser_sound : (types : List Name) (allowed : ℕ) (ts : List Token) (x : Option InitialiserTree × List Token) → initialiser types allowed ts ≡ Some x → SpellsInitialiser types x.0 ts x.1 × (initialiser_height x.0 ≤ allowed)
unfolding initialiser
initialiser_sound types allowed ts x e = go (place_after Marks.Equal ts) refl e
  where
    go : (o : Option (Place × List Token)) → place_after Marks.Equal ts ≡ o → initialiser_by types allowed o ts ≡ Some x → SpellsInitialiser types x.0 ts x.1 × (initialiser_height x.0 ≤ allowed)
    go None h e = subst (λ (y : Option InitialiserTree × List Token). SpellsInitialiser types y.0 ts y.1 × (initialiser_height y.0 ≤ allowed)) (from_some e) (refl, omega arith)
    go (Some y) h e =
        let a = then_read_some (value types allowed y.1) (λ v rest. Some (Some (record { value = v; place = y.0 }), rest)) x e in
        let r = value_sound types allowed y.1 a.0 a.1 in
        subst (λ (z : Option InitialiserTree × List Token). SpellsInitialiser types z.0 ts z.1 × (initialiser_height z.0 ≤ allowed)) (from_some a.2) ((y.1, place_after_finds Marks.Equal ts y h, r.0), r.1)

-- ## What is spelled is read

-- no operator of an assignment or a tighter one follows
abbrev pub StopsAssignment : List Token → Type 0
StopsAssignment ts = GoesOn 1 ts → ⊥

no_equal : (ts : List Token) → StopsAssignment ts → after Marks.Equal ts ≡ None
no_equal ts stops = go (after Marks.Equal ts) refl
  where
    go : (o : Option (List Token)) → after Marks.Equal ts ≡ o → o ≡ None
    go None h = refl
    go (Some rest) h = let s = after_finds Marks.Equal ts rest h in let le : 1 ≤ 1 = omega arith in absurd (stops (subst (GoesOn 1) (sym s.1) le))

-- The token after them does not go on an assignment: a `,`, a `}` or a `;` does not.
pub value_complete : (types : List Name) (allowed : ℕ) (v : ValueTree) (ts rest : List Token) → SpellsValue types v ts rest → value_height v ≤ allowed → (GoesOn 1 rest → ⊥) → value types allowed ts ≡ Some (v, rest)
unfolding value
value_complete types zero v ts rest s low stops = absurd (omega (arith, value_has_height v))
value_complete types (suc h) (an_expression t) ts rest s low stops =
    ap (λ o. value_by types h (value types h) o ts) (place_after_none Marks.OpenBrace ts (no_mark types Marks.OpenBrace t ts rest (λ e. cc) s.0))
    ∙ ap (λ o. then_read o (λ t rest. Some (an_expression t, rest))) (expression_complete types (suc h) 1 ts t rest s low stops)
value_complete types (suc h) (a_list values p) ts rest s low stops =
    ap (λ o. value_by types h (value types h) o ts) (place_after_spelled Marks.OpenBrace p ts s.0 s.1)
    ∙ ap (λ o. then_read o (λ values rest. Some (a_list (as_values values) p, rest)))
    (in_braces_complete (IsValue types h) StopsAssignment (value types h) (λ v a b q f. value_complete types h v a b q.0 q.1 f) (λ v a b q. value_shorter types v a b q.0)
    (λ a b q. mark_stops Marks.Comma 1 a b (omega arith) q) (λ a b q. mark_stops Marks.CloseBrace 1 a b (omega arith) q) (λ v a b q. value_begins types v a b q.0)
    (value_list values) s.0 rest (all_listed types h values s.0 rest s.2 (omega arith)))
    ∙ ap (λ vs. Some (a_list vs p, rest)) (as_value_list values)

pub initialiser_complete : (types : List Name) (allowed : ℕ) (i : Option InitialiserTree) (ts rest : List Token) → SpellsInitialiser types i ts rest → initialiser_height i ≤ allowed → (GoesOn 1 rest → ⊥) → initialiser types allowed ts ≡ Some (i, rest)
unfolding initialiser
initialiser_complete types allowed None ts rest s low stops =
    ap (λ o. initialiser_by types allowed o ts) (place_after_none Marks.Equal ts (ap (after Marks.Equal) s ∙ no_equal rest stops))
    ∙ ap (λ r. Some (None, r)) s
initialiser_complete types allowed (Some i) ts rest s low stops =
    ap (λ o. initialiser_by types allowed o ts) (place_after_spelled Marks.Equal i.place ts s.0 s.1)
    ∙ ap (λ o. then_read o (λ v rest. Some (Some (record { value = v; place = i.place }), rest))) (value_complete types allowed i.value s.0 rest s.2 low stops)
