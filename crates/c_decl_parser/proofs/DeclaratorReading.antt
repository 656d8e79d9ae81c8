-- Declarators: what is read is spelled, and what is spelled is read.
use Rattle.std.proofs.Common.{◌≡◌, ℕ, zero, suc, ◌<◌, ◌≤◌, Bool, true, false, List, [], ◌∷◌, ◌++◌, length, Option, Some, None, refl, sym, ap, ◌∙◌, subst, arith, append_assoc}
use Rattle.std.proofs.lemmas.List.{append-nil}
use Rattle.tm_terms.specs.declared.places.Place.{Place}
use Rattle.tm_terms.specs.declared.tokens.Name.{Name}
use Rattle.tm_terms.specs.declared.tokens.Sign.TheVariants as Signs
use Rattle.tm_terms.specs.declared.tokens.Token.{Token}
use Rattle.tm_terms.specs.declared.types_named.PointerWord.{PointerWord}
use Rattle.tm_terms.specs.declared.tokens.Shape.TheVariants as Shapes
use Rattle.tm_terms.specs.ExprTrees.{Tree}
use Rattle.tm_terms.specs.ExprSpelling.{Begins, BySign, SpellsPointers, BeginsWithStar}
use Rattle.c_expr_parser.specs.declared.marks.Mark.TheVariants as Marks
use Rattle.c_expr_parser.specs.reading.Parts.{then_read, and_after, after, pointer_at}
use Rattle.c_expr_parser.proofs.Tokens.{none_some, from_some, after_finds, after_spelled, then_read_some, and_after_some, begins_shorter}
use Rattle.c_expr_parser.proofs.TypeReading.{pointers_find, pointers_spelled, pointers_shorter}
use Rattle.c_expr_parser.proofs.Sound.{shorter, by_shorter}
use Rattle.tm_trees.specs.DeclarationTrees.{LengthTree, DeclaratorTree, a_declared_name, a_nested, lengths_height, declarator_height}
use Rattle.tm_trees.specs.DeclarationSpelling.{SpellsOptional, SpellsLengths, SpellsDeclaredName, SpellsDeclarator}
use Rattle.c_decl_parser.specs.reading.Parts.{place_after, declared_at, until}
use Rattle.c_decl_parser.specs.reading.DeclarationDescent.{lengths_by, lengths_from, lengths, pointers, named_by, nested_by, direct_by, declarator_after, declarator}
use Rattle.c_decl_parser.proofs.MarkReading.{place_after_finds, place_after_spelled, place_after_none, declared_finds, declared_spelled}
use Rattle.c_decl_parser.proofs.ExpressionReading.{until_sound, until_complete}

-- ## Pointer parts

pub pointers_sound : (ts : List Token) → SpellsPointers (pointers ts).0 ts (pointers ts).1 × BeginsWithStar (pointers ts).0
pointers_sound ts =
    let r = pointers_find (length ts) false [] ts in
    (subst (λ w. SpellsPointers w ts (pointers ts).1) (sym r.1) r.2, subst BeginsWithStar (sym r.1) (r.3 refl))

-- no further token of a pointer part follows
pub pointers_complete : (words : List PointerWord) (ts rest : List Token) → SpellsPointers words ts rest → BeginsWithStar words → pointer_at true rest ≡ None → pointers ts ≡ (words, rest)
pointers_complete words ts rest s star ends = pointers_spelled words ts rest s star ends

-- ## Declarators and their parts

-- the pointer part of a declarator
abbrev pub pointers_of : DeclaratorTree → List PointerWord
pointers_of (a_declared_name words n p sizes) = words
pointers_of (a_nested words d sizes) = words

-- a declarator behind its pointer part
abbrev pub SpellsDirect : Bool → List Name → DeclaratorTree → List Token → List Token → Type 0
SpellsDirect member types (a_declared_name words n p sizes) ts rest =
    (a : List Token) × SpellsDeclaredName member types n p ts a × SpellsLengths types sizes a rest
SpellsDirect member types (a_nested words d sizes) ts rest =
    (a : List Token) × (b : List Token) × (c : List Token) × BySign Signs.OpenParenthesis ts a × SpellsDeclarator member types d a b
    × BySign Signs.CloseParenthesis b c × SpellsLengths types sizes c rest

pub declarator_parts : (member : Bool) (types : List Name) (d : DeclaratorTree) (ts rest : List Token) → SpellsDeclarator member types d ts rest → (a : List Token) × SpellsPointers (pointers_of d) ts a × BeginsWithStar (pointers_of d) × SpellsDirect member types d a rest
declarator_parts member types (a_declared_name words n p sizes) ts rest s = (s.0, s.2, s.3, (s.1, s.4, s.5))
declarator_parts member types (a_nested words d sizes) ts rest s = (s.0, s.4, s.5, (s.1, s.2, s.3, s.6, s.7, s.8, s.9))

pub declarator_whole : (member : Bool) (types : List Name) (d : DeclaratorTree) (ts a rest : List Token) → SpellsPointers (pointers_of d) ts a → BeginsWithStar (pointers_of d) → SpellsDirect member types d a rest → SpellsDeclarator member types d ts rest
declarator_whole member types (a_declared_name words n p sizes) ts a rest w star s = (a, s.0, w, star, s.1, s.2)
declarator_whole member types (a_nested words d sizes) ts a rest w star s = (a, s.0, s.1, s.2, w, star, s.3, s.4, s.5, s.6)

pub name_begins : (member : Bool) (types : List Name) (n : Name) (p : Place) (ts rest : List Token) → SpellsDeclaredName member types n p ts rest → Begins (Shapes.Name n) p ts rest
name_begins true types n p ts rest s = s
name_begins false types n p ts rest s = s.1

-- behind its pointer part a declarator begins with a name or a `(`, so with no token of a pointer part
pub direct_ends_pointers : (member : Bool) (types : List Name) (d : DeclaratorTree) (ts rest : List Token) → SpellsDirect member types d ts rest → pointer_at true ts ≡ None
direct_ends_pointers member types (a_declared_name words n p sizes) ts rest s = ap (pointer_at true) (name_begins member types n p ts s.0 s.1)
direct_ends_pointers member types (a_nested words d sizes) ts rest s = ap (pointer_at true) s.3.1

pub declarator_pointers : (member : Bool) (types : List Name) (d : DeclaratorTree) (ts a rest : List Token) → SpellsPointers (pointers_of d) ts a → BeginsWithStar (pointers_of d) → SpellsDirect member types d a rest → pointers ts ≡ (pointers_of d, a)
declarator_pointers member types d ts a rest words star s = pointers_complete (pointers_of d) ts a words star (direct_ends_pointers member types d a rest s)

optional_shorter : (types : List Name) (at : ℕ) (o : Option Tree) (ts rest : List Token) → SpellsOptional types at o ts rest → length rest ≤ length ts
optional_shorter types at None ts rest s = let n : length ts ≡ length rest = ap length s in omega arith
optional_shorter types at (Some t) ts rest s = let a = shorter types t ts rest s.0 in omega arith

lengths_shorter : (types : List Name) (sizes : List LengthTree) (ts rest : List Token) → SpellsLengths types sizes ts rest → length rest ≤ length ts
lengths_shorter types [] ts rest s = let n : length ts ≡ length rest = ap length s in omega arith
lengths_shorter types (l ∷ sizes) ts rest s =
    let a = begins_shorter (Shapes.Sign Signs.OpenBracket) l.place ts s.0 s.3 in
    let b = optional_shorter types 2 l.value s.0 s.1 s.4 in
    let c = by_shorter Signs.CloseBracket s.1 s.2 s.5 in
    let d = lengths_shorter types sizes s.2 rest s.6 in omega arith

pub declarator_shorter : (member : Bool) (types : List Name) (d : DeclaratorTree) (ts rest : List Token) → SpellsDeclarator member types d ts rest → length rest < length ts
declarator_shorter member types (a_declared_name words n p sizes) ts rest s =
    let o = pointers_shorter words ts s.0 s.2 in
    let a = begins_shorter (Shapes.Name n) p s.0 s.1 (name_begins member types n p s.0 s.1 s.4) in
    let b = lengths_shorter types sizes s.1 rest s.5 in omega arith
declarator_shorter member types (a_nested words d sizes) ts rest s =
    let o = pointers_shorter words ts s.0 s.4 in
    let a = by_shorter Signs.OpenParenthesis s.0 s.1 s.6 in
    let b = declarator_shorter member types d s.1 s.2 s.7 in
    let c = by_shorter Signs.CloseParenthesis s.2 s.3 s.8 in
    let e = lengths_shorter types sizes s.3 rest s.9 in omega arith

pub direct_shorter : (member : Bool) (types : List Name) (d : DeclaratorTree) (ts rest : List Token) → SpellsDirect member types d ts rest → length rest < length ts
direct_shorter member types (a_declared_name words n p sizes) ts rest s =
    let a = begins_shorter (Shapes.Name n) p ts s.0 (name_begins member types n p ts s.0 s.1) in
    let b = lengths_shorter types sizes s.0 rest s.2 in omega arith
direct_shorter member types (a_nested words d sizes) ts rest s =
    let a = by_shorter Signs.OpenParenthesis ts s.0 s.3 in
    let b = declarator_shorter member types d s.0 s.1 s.4 in
    let c = by_shorter Signs.CloseParenthesis s.1 s.2 s.5 in
    let e = lengths_shorter types sizes s.2 rest s.6 in omega arith

-- ## What is read is spelled

-- the lengths that were read are those before and some more
abbrev LengthsRead : List Name → ℕ → List LengthTree → List Token → List LengthTree × List Token → Type 0
LengthsRead types allowed found ts x = (more : List LengthTree) × (x.0 ≡ found ++ more) × SpellsLengths types more ts x.1 × (lengths_height more ≤ allowed)

lengths_from_sound : (types : List Name) (allowed n : ℕ) (found : List LengthTree) (ts : List Token) (x : List LengthTree × List Token) → lengths_from types allowed n found ts ≡ Some x → LengthsRead types allowed found ts x
unfolding lengths_from
lengths_from_sound types allowed zero found ts x e = subst (LengthsRead types allowed found ts) (from_some e) ([], sym (append-nil found), refl, omega arith)
lengths_from_sound types allowed (suc n) found ts x e = go (place_after Marks.OpenBracket ts) refl (λ before a. lengths_from_sound types allowed n before a x) e
  where
    go : (o : Option (Place × List Token)) → place_after Marks.OpenBracket ts ≡ o → ((before : List LengthTree) (a : List Token) → lengths_from types allowed n before a ≡ Some x → LengthsRead types allowed before a x)
        → lengths_by o (found, ts) (λ place a. then_read (until types allowed 2 Marks.CloseBracket a) (λ value rest. lengths_from types allowed n (found ++ record { value = value; place = place } ∷ []) rest)) ≡ Some x → LengthsRead types allowed found ts x
    go None h ih e = subst (LengthsRead types allowed found ts) (from_some e) ([], sym (append-nil found), refl, omega arith)
    go (Some y) h ih e =
        let a = then_read_some (until types allowed 2 Marks.CloseBracket y.1) (λ value rest. lengths_from types allowed n (found ++ record { value = value; place = y.0 } ∷ []) rest) x e in
        let l : LengthTree = record { value = a.0.0; place = y.0 } in
        let r = ih (found ++ l ∷ []) a.0.1 a.2 in
        let u = until_sound types allowed 2 Marks.CloseBracket y.1 a.0 a.1 in
        (l ∷ r.0, r.1 ∙ append_assoc found (l ∷ []) r.0, (y.1, u.0, a.0.1, place_after_finds Marks.OpenBracket ts y h, u.1, u.2, r.2), omega (arith, u.3, r.3))

lengths_sound : (types : List Name) (allowed : ℕ) (ts : List Token) (x : List LengthTree × List Token) → lengths types allowed ts ≡ Some x → SpellsLengths types x.0 ts x.1 × (lengths_height x.0 ≤ allowed)
lengths_sound types allowed ts x e =
    let r = lengths_from_sound types allowed (length ts) [] ts x e in
    subst (λ l. SpellsLengths types l ts x.1 × (lengths_height l ≤ allowed)) (sym r.1) (r.2, r.3)

-- a declarator behind these pointer words
abbrev pub DirectRead : Bool → List Name → ℕ → List PointerWord → List Token → DeclaratorTree × List Token → Type 0
DirectRead member types allowed words ts x = (pointers_of x.0 ≡ words) × SpellsDirect member types x.0 ts x.1 × (declarator_height x.0 ≤ allowed)

-- and with the pointer part before it
abbrev pub DeclaratorRead : Bool → List Name → ℕ → List Token → DeclaratorTree × List Token → Type 0
DeclaratorRead member types allowed ts x = SpellsDeclarator member types x.0 ts x.1 × (declarator_height x.0 ≤ allowed)

pub with_pointers : (member : Bool) (types : List Name) (allowed : ℕ) (words : List PointerWord) (ts0 ts : List Token) (x : DeclaratorTree × List Token) → SpellsPointers words ts0 ts → BeginsWithStar words → DirectRead member types allowed words ts x → DeclaratorRead member types allowed ts0 x
with_pointers member types allowed words ts0 ts x w star r =
    (declarator_whole member types x.0 ts0 ts x.1 (subst (λ v. SpellsPointers v ts0 ts) (sym r.0) w) (subst BeginsWithStar (sym r.0) star) r.1, r.2)

named_sound : (member : Bool) (types : List Name) (h : ℕ) (words : List PointerWord) (ts : List Token) (x : DeclaratorTree × List Token) → named_by types h words (declared_at member types ts) ≡ Some x → DirectRead member types (suc h) words ts x
named_sound member types h words ts x e =
    let a = then_read_some (declared_at member types ts) (λ n a. then_read (lengths types h a) (λ sizes rest. Some (a_declared_name words n.0 n.1 sizes, rest))) x e in
    let b = then_read_some (lengths types h a.0.1) (λ sizes rest. Some (a_declared_name words a.0.0.0 a.0.0.1 sizes, rest)) x a.2 in
    let l = lengths_sound types h a.0.1 b.0 b.1 in
    subst (DirectRead member types (suc h) words ts) (from_some b.2) (refl, (a.0.1, declared_finds member types ts a.0 a.1, l.0), omega (arith, l.1))

nested_sound : (member : Bool) (types : List Name) (h : ℕ) (words : List PointerWord) (ts inside : List Token) (x : DeclaratorTree × List Token) → BySign Signs.OpenParenthesis ts inside → ((y : DeclaratorTree × List Token) → declarator member types h inside ≡ Some y → DeclaratorRead member types h inside y)
    → nested_by types h words (declarator member types h inside) ≡ Some x → DirectRead member types (suc h) words ts x
nested_sound member types h words ts inside x open_is ih e =
    let a = then_read_some (declarator member types h inside) (λ d a. and_after (after Marks.CloseParenthesis a) (λ b. then_read (lengths types h b) (λ sizes rest. Some (a_nested words d sizes, rest)))) x e in
    let b = and_after_some (after Marks.CloseParenthesis a.0.1) (λ b. then_read (lengths types h b) (λ sizes rest. Some (a_nested words a.0.0 sizes, rest))) x a.2 in
    let c = then_read_some (lengths types h b.0) (λ sizes rest. Some (a_nested words a.0.0 sizes, rest)) x b.2 in
    let d = ih a.0 a.1 in
    let l = lengths_sound types h b.0 c.0 c.1 in
    subst (DirectRead member types (suc h) words ts) (from_some c.2)
    (refl, (inside, a.0.1, b.0, open_is, d.0, after_finds Marks.CloseParenthesis a.0.1 b.0 b.1, l.0), omega (arith, d.1, l.1))

pub declarator_after_sound : (member : Bool) (types : List Name) (allowed : ℕ) (words : List PointerWord) (ts : List Token) (x : DeclaratorTree × List Token) → declarator_after member types allowed words ts ≡ Some x → DirectRead member types allowed words ts x
unfolding declarator_after
declarator_after_sound member types zero words ts x e = none_some e
declarator_after_sound member types (suc h) words ts x e =
    go (after Marks.OpenParenthesis ts) refl (λ inside y f. let p = pointers_sound inside in with_pointers member types h (pointers inside).0 inside (pointers inside).1 y p.0 p.1 (declarator_after_sound member types h (pointers inside).0 (pointers inside).1 y f)) e
  where
    go : (o : Option (List Token)) → after Marks.OpenParenthesis ts ≡ o → ((inside : List Token) (y : DeclaratorTree × List Token) → declarator member types h inside ≡ Some y → DeclaratorRead member types h inside y) → direct_by member types h (declarator_after member types h) words o ts ≡ Some x → DirectRead member types (suc h) words ts x
    go None o ih e = named_sound member types h words ts x e
    go (Some inside) o ih e = nested_sound member types h words ts inside x (after_finds Marks.OpenParenthesis ts inside o) (ih inside) e

pub declarator_sound : (member : Bool) (types : List Name) (allowed : ℕ) (ts : List Token) (x : DeclaratorTree × List Token) → declarator member types allowed ts ≡ Some x → SpellsDeclarator member types x.0 ts x.1 × (declarator_height x.0 ≤ allowed)
declarator_sound member types allowed ts x e =
    let p = pointers_sound ts in
    with_pointers member types allowed (pointers ts).0 ts (pointers ts).1 x p.0 p.1 (declarator_after_sound member types allowed (pointers ts).0 (pointers ts).1 x e)

-- ## What is spelled is read: no `[` follows

lengths_pair : (a b : List LengthTree) (ts rest : List Token) → a ≡ b → ts ≡ rest → ◌≡◌ {A = List LengthTree × List Token} (a, ts) (b, rest)
lengths_pair a b ts rest e f = λ i. (e i, f i)

lengths_from_complete : (types : List Name) (allowed : ℕ) (sizes : List LengthTree) (n : ℕ) (found : List LengthTree) (ts rest : List Token) → SpellsLengths types sizes ts rest → lengths_height sizes ≤ allowed → after Marks.OpenBracket rest ≡ None → length ts ≤ n → lengths_from types allowed n found ts ≡ Some (found ++ sizes, rest)
unfolding lengths_from
lengths_from_complete types allowed [] zero found ts rest s low ends le = ap Some (lengths_pair _ _ _ _ (sym (append-nil found)) s)
lengths_from_complete types allowed [] (suc n) found ts rest s low ends le =
    ap (λ o. lengths_by o (found, ts) (λ place a. then_read (until types allowed 2 Marks.CloseBracket a) (λ value rest. lengths_from types allowed n (found ++ record { value = value; place = place } ∷ []) rest))) (place_after_none Marks.OpenBracket ts (ap (after Marks.OpenBracket) s ∙ ends))
    ∙ ap Some (lengths_pair _ _ _ _ (sym (append-nil found)) s)
lengths_from_complete types allowed (l ∷ sizes) zero found ts rest s low ends le =
    let less = begins_shorter (Shapes.Sign Signs.OpenBracket) l.place ts s.0 s.3 in absurd (omega arith)
lengths_from_complete types allowed (l ∷ sizes) (suc n) found ts rest s low ends le =
    let less = begins_shorter (Shapes.Sign Signs.OpenBracket) l.place ts s.0 s.3 in
    let less2 = optional_shorter types 2 l.value s.0 s.1 s.4 in
    let less3 = by_shorter Signs.CloseBracket s.1 s.2 s.5 in
    ap (λ o. lengths_by o (found, ts) (λ place a. then_read (until types allowed 2 Marks.CloseBracket a) (λ value rest. lengths_from types allowed n (found ++ record { value = value; place = place } ∷ []) rest))) (place_after_spelled Marks.OpenBracket l.place ts s.0 s.3)
    ∙ ap (λ o. then_read o (λ value rest. lengths_from types allowed n (found ++ record { value = value; place = l.place } ∷ []) rest)) (until_complete types allowed 2 Marks.CloseBracket l.value s.0 s.1 s.2 refl s.4 s.5 (omega arith))
    ∙ lengths_from_complete types allowed sizes n (found ++ l ∷ []) s.2 rest s.6 (omega arith) ends (omega arith)
    ∙ ap Some (lengths_pair _ _ _ _ (append_assoc found (l ∷ []) sizes) refl)

lengths_complete : (types : List Name) (allowed : ℕ) (sizes : List LengthTree) (ts rest : List Token) → SpellsLengths types sizes ts rest → lengths_height sizes ≤ allowed → after Marks.OpenBracket rest ≡ None → lengths types allowed ts ≡ Some (sizes, rest)
lengths_complete types allowed sizes ts rest s low ends = lengths_from_complete types allowed sizes (length ts) [] ts rest s low ends (omega arith)

pub declarator_has_height : (d : DeclaratorTree) → 1 ≤ declarator_height d
declarator_has_height (a_declared_name words n p sizes) = omega arith
declarator_has_height (a_nested words d sizes) = omega arith

pub declarator_after_complete : (member : Bool) (types : List Name) (allowed : ℕ) (d : DeclaratorTree) (ts rest : List Token) → SpellsDirect member types d ts rest → declarator_height d ≤ allowed → after Marks.OpenBracket rest ≡ None → declarator_after member types allowed (pointers_of d) ts ≡ Some (d, rest)
unfolding declarator_after
declarator_after_complete member types zero d ts rest s low ends = absurd (omega (arith, declarator_has_height d))
declarator_after_complete member types (suc h) (a_declared_name words n p sizes) ts rest s low ends =
    ap (λ o. direct_by member types h (declarator_after member types h) words o ts) (ap (after Marks.OpenParenthesis) (name_begins member types n p ts s.0 s.1))
    ∙ ap (named_by types h words) (declared_spelled member types n p ts s.0 s.1)
    ∙ ap (λ o. then_read o (λ sizes rest. Some (a_declared_name words n p sizes, rest))) (lengths_complete types h sizes s.0 rest s.2 (omega arith) ends)
declarator_after_complete member types (suc h) (a_nested words d sizes) ts rest s low ends =
    let q = declarator_parts member types d s.0 s.1 s.4 in
    ap (λ o. direct_by member types h (declarator_after member types h) words o ts) (after_spelled Marks.OpenParenthesis ts s.0 s.3)
    ∙ ap (λ (x : List PointerWord × List Token). nested_by types h words (declarator_after member types h x.0 x.1)) (declarator_pointers member types d s.0 q.0 s.1 q.1 q.2 q.3)
    ∙ ap (nested_by types h words) (declarator_after_complete member types h d q.0 s.1 q.3 (omega arith) (ap (after Marks.OpenBracket) s.5.1))
    ∙ ap (λ o. and_after o (λ b. then_read (lengths types h b) (λ sizes rest. Some (a_nested words d sizes, rest)))) (after_spelled Marks.CloseParenthesis s.1 s.2 s.5)
    ∙ ap (λ o. then_read o (λ sizes rest. Some (a_nested words d sizes, rest))) (lengths_complete types h sizes s.2 rest s.6 (omega arith) ends)

pub declarator_complete : (member : Bool) (types : List Name) (allowed : ℕ) (d : DeclaratorTree) (ts rest : List Token) → SpellsDeclarator member types d ts rest → declarator_height d ≤ allowed → after Marks.OpenBracket rest ≡ None → declarator member types allowed ts ≡ Some (d, rest)
declarator_complete member types allowed d ts rest s low ends =
    let q = declarator_parts member types d ts rest s in
    ap (λ (x : List PointerWord × List Token). declarator_after member types allowed x.0 x.1) (declarator_pointers member types d ts q.0 rest q.1 q.2 q.3)
    ∙ declarator_after_complete member types allowed d q.0 rest q.3 low ends
