-- Declarations: what is read is spelled, and what is spelled is read.
use Rattle.std.proofs.Common.{◌≡◌, ℕ, zero, suc, ◌<◌, ◌≤◌, Bool, true, false, cond, List, [], ◌∷◌, ◌++◌, length, Option, Some, None, refl, sym, ap, ◌∙◌, subst, arith, append_assoc}
use Rattle.std.proofs.lemmas.List.{append-nil}
use Rattle.tm_terms.specs.declared.tokens.Name.{Name}
use Rattle.tm_terms.specs.declared.tokens.Sign.TheVariants as Signs
use Rattle.tm_terms.specs.declared.tokens.Token.{Token}
use Rattle.tm_terms.specs.declared.types_named.PointerWord.{PointerWord}
use Rattle.tm_terms.specs.declared.types_named.PointerWord.TheVariants as Pointers
use Rattle.tm_terms.specs.ExprSpelling.{BySign, SpellsPointers, BeginsWithStar, is_type_name_list, GoesOn}
use Rattle.c_expr_parser.specs.declared.marks.Mark.TheVariants as Marks
use Rattle.c_expr_parser.specs.reading.Parts.{then_read, and_after, after, begins_type}
use Rattle.c_expr_parser.proofs.Tokens.{none_some, from_some, after_finds, after_spelled, then_read_some, and_after_some, cond_some}
use Rattle.c_expr_parser.proofs.Sound.{by_shorter}
use Rattle.tm_trees.specs.DeclarationTrees.{DeclaratorTree, a_declared_name, a_nested, declared_name, count_as, as_specifiers, InitialiserTree, InitDeclaratorTree, init_declarator_height, init_declarators_height, DeclarationTree, declaration_height}
use Rattle.tm_trees.specs.DeclarationSpelling.{with_declared, SpellsDeclarator, SpellsInitialiser, SpellsInitDeclarator, SpellsMoreInitDeclarators, SpellsInitDeclarators, SpellsLocalDeclaration}
use Rattle.c_decl_parser.specs.reading.Repetitions.{separated_by, separated, one_or_more}
use Rattle.c_decl_parser.specs.reading.DeclarationDescent.{pointers, declarator_after, specifiers, initialiser, init_declarator_after, init_declarator, init_declarators_by, init_declarators, local_after, local_declaration, typedef_after, typedefs_from, rest_of_declaration, file_declarators}
use Rattle.c_decl_parser.proofs.MarkReading.{mark_stops}
use Rattle.c_decl_parser.proofs.RepetitionReading.{Relation, Separated, OneOrMore, separated_sound, one_or_more_sound, separated_complete, one_or_more_complete}
use Rattle.c_decl_parser.proofs.DeclaratorReading.{declarator_parts, name_begins, declarator_pointers, declarator_shorter, pointers_sound, with_pointers, declarator_after_sound, declarator_after_complete}
use Rattle.c_decl_parser.proofs.SpecifierReading.{as_listed, type_name_list_names_type, ends_specifiers, declarator_ends, specifiers_sound, specifiers_begin, specifiers_shorter, specifiers_complete}
use Rattle.c_decl_parser.proofs.ValueReading.{StopsAssignment, initialiser_shorter, initialiser_sound, initialiser_complete}

-- ## Lengths

init_shorter : (typedef : Bool) (types : List Name) (d : InitDeclaratorTree) (ts : List Token) (types' : List Name) (rest : List Token) → SpellsInitDeclarator typedef types d ts types' rest → length rest < length ts
init_shorter typedef types d ts types' rest s =
    let a = declarator_shorter false types d.declarator ts s.0 s.1 in let b = initialiser_shorter types' d.initialiser s.0 rest s.3 in omega arith

more_shorter : (typedef : Bool) (types : List Name) (more : List InitDeclaratorTree) (ts : List Token) (types' : List Name) (rest : List Token) → SpellsMoreInitDeclarators typedef types more ts types' rest → length rest ≤ length ts
more_shorter typedef types [] ts types' rest s = let n : length ts ≡ length rest = ap length s.1 in omega arith
more_shorter typedef types (d ∷ more) ts types' rest s =
    let a = by_shorter Signs.Comma ts s.0 s.3 in let b = init_shorter typedef types d s.0 s.2 s.1 s.4 in
    let c = more_shorter typedef s.2 more s.1 types' rest s.5 in omega arith

pub init_declarators_shorter : (typedef : Bool) (types : List Name) (d : InitDeclaratorTree) (more : List InitDeclaratorTree) (ts : List Token) (types' : List Name) (rest : List Token) → SpellsInitDeclarators typedef types (d ∷ more) ts types' rest → length rest < length ts
init_declarators_shorter typedef types d more ts types' rest s =
    let a = init_shorter typedef types d ts s.1 s.0 s.2 in let b = more_shorter typedef s.1 more s.0 types' rest s.3 in omega arith

-- ## One declarator and its value

-- one that declares no typedef, within the height
abbrev IsInit : List Name → ℕ → Relation InitDeclaratorTree
IsInit types allowed d ts rest = SpellsInitDeclarator false types d ts types rest × (init_declarator_height d ≤ allowed)

init_after_sound : (types : List Name) (allowed : ℕ) (words : List PointerWord) (ts0 ts : List Token) (x : InitDeclaratorTree × List Token) → SpellsPointers words ts0 ts → BeginsWithStar words → init_declarator_after types allowed words ts ≡ Some x → IsInit types allowed x.0 ts0 x.1
unfolding init_declarator_after
init_after_sound types zero words ts0 ts x w star e = none_some e
init_after_sound types (suc h) words ts0 ts x w star e =
    let a = then_read_some (declarator_after false types h words ts) (λ d a. then_read (initialiser types h a) (λ i rest. Some (record { declarator = d; initialiser = i }, rest))) x e in
    let b = then_read_some (initialiser types h a.0.1) (λ i rest. Some (record { declarator = a.0.0; initialiser = i }, rest)) x a.2 in
    let d = with_pointers false types h words ts0 ts a.0 w star (declarator_after_sound false types h words ts a.0 a.1) in
    let i = initialiser_sound types h a.0.1 b.0 b.1 in
    subst (λ (y : InitDeclaratorTree × List Token). IsInit types (suc h) y.0 ts0 y.1) (from_some b.2) ((a.0.1, d.0, refl, i.0), omega (arith, d.1, i.1))

init_sound : (types : List Name) (allowed : ℕ) (ts : List Token) (x : InitDeclaratorTree × List Token) → init_declarator types allowed ts ≡ Some x → IsInit types allowed x.0 ts x.1
init_sound types allowed ts x e =
    let p = pointers_sound ts in init_after_sound types allowed (pointers ts).0 ts (pointers ts).1 x p.0 p.1 e

bracket_goes_on : (ts rest : List Token) → BySign Signs.OpenBracket ts rest → GoesOn 1 ts
bracket_goes_on ts rest s = let le : 1 ≤ 15 = omega arith in subst (GoesOn 1) (sym s.1) le

-- where nothing goes on an assignment, no `[` comes
no_bracket : (ts : List Token) → StopsAssignment ts → after Marks.OpenBracket ts ≡ None
no_bracket ts stops = go (after Marks.OpenBracket ts) refl
  where
    go : (o : Option (List Token)) → after Marks.OpenBracket ts ≡ o → o ≡ None
    go None h = refl
    go (Some rest) h = let s = after_finds Marks.OpenBracket ts rest h in absurd (stops (bracket_goes_on ts rest s))

behind_declarator : (types : List Name) (i : Option InitialiserTree) (ts rest : List Token) → SpellsInitialiser types i ts rest → StopsAssignment rest → after Marks.OpenBracket ts ≡ None
behind_declarator types None ts rest s stops = ap (after Marks.OpenBracket) s ∙ no_bracket rest stops
behind_declarator types (Some i) ts rest s stops = ap (after Marks.OpenBracket) s.1

init_complete : (types : List Name) (allowed : ℕ) (d : InitDeclaratorTree) (ts rest : List Token) → IsInit types allowed d ts rest → StopsAssignment rest → init_declarator types allowed ts ≡ Some (d, rest)
unfolding init_declarator_after
init_complete types zero d ts rest s stops = absurd (omega (arith, s.1))
init_complete types (suc h) d ts rest s stops =
    let q = declarator_parts false types d.declarator ts s.0.0 s.0.1 in
    ap (λ (x : List PointerWord × List Token). init_declarator_after types (suc h) x.0 x.1) (declarator_pointers false types d.declarator ts q.0 s.0.0 q.1 q.2 q.3)
    ∙ ap (λ o. then_read o (λ d a. then_read (initialiser types h a) (λ i rest. Some (record { declarator = d; initialiser = i }, rest))))
    (declarator_after_complete false types h d.declarator q.0 s.0.0 q.3 (omega (arith, s.1)) (behind_declarator types d.initialiser s.0.0 rest s.0.3 stops))
    ∙ ap (λ o. then_read o (λ i rest. Some (record { declarator = d.declarator; initialiser = i }, rest))) (initialiser_complete types h d.initialiser s.0.0 rest s.0.3 (omega (arith, s.1)) stops)

-- ## Lists of them that declare no typedef

more_spelled : (types : List Name) (allowed : ℕ) (more : List InitDeclaratorTree) (ts rest : List Token) → Separated (IsInit types allowed) more ts rest → SpellsMoreInitDeclarators false types more ts types rest × (init_declarators_height more ≤ allowed)
more_spelled types allowed [] ts rest s = ((refl, s), omega arith)
more_spelled types allowed (d ∷ more) ts rest s =
    let r = more_spelled types allowed more s.1 rest s.4 in ((s.0, s.1, types, s.2, s.3.0, r.0), omega (arith, s.3.1, r.1))

all_spelled : (types : List Name) (allowed : ℕ) (declarators : List InitDeclaratorTree) (ts rest : List Token) → OneOrMore (IsInit types allowed) declarators ts rest → SpellsInitDeclarators false types declarators ts types rest × (init_declarators_height declarators ≤ allowed)
all_spelled types allowed [] ts rest s = absurd s
all_spelled types allowed (d ∷ more) ts rest s =
    let r = more_spelled types allowed more s.0 rest s.2 in ((s.0, types, s.1.0, r.0), omega (arith, s.1.1, r.1))

-- the names of typedefs stay
same_types : (types : List Name) (more : List InitDeclaratorTree) (ts : List Token) (types' : List Name) (rest : List Token) → SpellsMoreInitDeclarators false types more ts types' rest → types ≡ types'
same_types types [] ts types' rest s = s.0
same_types types (d ∷ more) ts types' rest s = sym s.4.2 ∙ same_types s.2 more s.1 types' rest s.5

more_listed : (types : List Name) (allowed : ℕ) (more : List InitDeclaratorTree) (ts : List Token) (types' : List Name) (rest : List Token) → SpellsMoreInitDeclarators false types more ts types' rest → init_declarators_height more ≤ allowed → Separated (IsInit types allowed) more ts rest
more_listed types allowed [] ts types' rest s low = s.1
more_listed types allowed (d ∷ more) ts types' rest s low = (
  s.0,
  s.1,
  s.3,
  (subst (λ mid. SpellsInitDeclarator false types d s.0 mid s.1) s.4.2 s.4, omega arith),
  more_listed types allowed more s.1 types' rest (subst (λ mid. SpellsMoreInitDeclarators false mid more s.1 types' rest) s.4.2 s.5) (omega arith),
)

all_listed : (types : List Name) (allowed : ℕ) (d : InitDeclaratorTree) (more : List InitDeclaratorTree) (ts : List Token) (types' : List Name) (rest : List Token) → SpellsInitDeclarators false types (d ∷ more) ts types' rest → init_declarators_height (d ∷ more) ≤ allowed → OneOrMore (IsInit types allowed) (d ∷ more) ts rest
all_listed types allowed d more ts types' rest s low = (
  s.0,
  (subst (λ mid. SpellsInitDeclarator false types d ts mid s.0) s.2.2 s.2, omega arith),
  more_listed types allowed more s.0 types' rest (subst (λ mid. SpellsMoreInitDeclarators false mid more s.0 types' rest) s.2.2 s.3) (omega arith),
)

-- ## Declarations in blocks

abbrev InitsRead : List Name → ℕ → List Token → List InitDeclaratorTree × List Token → Type 0
InitsRead types allowed ts x = (a : List Token) × SpellsInitDeclarators false types x.0 ts types a × BySign Signs.Semicolon a x.1 × (init_declarators_height x.0 ≤ allowed)

init_declarators_sound : (types : List Name) (allowed : ℕ) (ts : List Token) (x : List InitDeclaratorTree × List Token) → init_declarators types allowed ts ≡ Some x → InitsRead types allowed ts x
unfolding init_declarators
init_declarators_sound types allowed ts x e = go (after Marks.Semicolon ts) refl e
  where
    go : (o : Option (List Token)) → after Marks.Semicolon ts ≡ o → init_declarators_by types allowed o ts ≡ Some x → InitsRead types allowed ts x
    go (Some rest) h e = subst (InitsRead types allowed ts) (from_some e) (ts, (refl, refl), after_finds Marks.Semicolon ts rest h, omega arith)
    go None h e =
        let a = then_read_some (one_or_more (init_declarator types allowed) ts) (λ found a. and_after (after Marks.Semicolon a) (λ rest. Some (found, rest))) x e in
        let b = and_after_some (after Marks.Semicolon a.0.1) (λ rest. Some (a.0.0, rest)) x a.2 in
        let s = all_spelled types allowed a.0.0 ts a.0.1 (one_or_more_sound (IsInit types allowed) (init_declarator types allowed) (init_sound types allowed) ts a.0 a.1) in
        subst (InitsRead types allowed ts) (from_some b.2) (a.0.1, s.0, after_finds Marks.Semicolon a.0.1 b.0 b.1, s.1)

pub pointers_no_semicolon : (words : List PointerWord) (ts rest : List Token) → SpellsPointers words ts rest → BeginsWithStar words → after Marks.Semicolon rest ≡ None → after Marks.Semicolon ts ≡ None
pointers_no_semicolon [] ts rest s star e = ap (after Marks.Semicolon) s ∙ e
pointers_no_semicolon (Pointers.Star ∷ words) ts rest s star e = ap (after Marks.Semicolon) s.2
pointers_no_semicolon (Pointers.Const ∷ words) ts rest s star e = absurd star
pointers_no_semicolon (Pointers.Volatile ∷ words) ts rest s star e = absurd star
pointers_no_semicolon (Pointers.Restrict ∷ words) ts rest s star e = absurd star

-- a declarator begins with no `;`
pub declarator_no_semicolon : (types : List Name) (d : DeclaratorTree) (ts rest : List Token) → SpellsDeclarator false types d ts rest → after Marks.Semicolon ts ≡ None
declarator_no_semicolon types (a_declared_name words n p sizes) ts rest s =
    pointers_no_semicolon words ts s.0 s.2 s.3 (ap (after Marks.Semicolon) (name_begins false types n p s.0 s.1 s.4))
declarator_no_semicolon types (a_nested words d sizes) ts rest s = pointers_no_semicolon words ts s.0 s.4 s.5 (ap (after Marks.Semicolon) s.6.1)

init_declarators_complete : (types : List Name) (allowed : ℕ) (declarators : List InitDeclaratorTree) (ts : List Token) (types' : List Name) (a rest : List Token) → SpellsInitDeclarators false types declarators ts types' a → BySign Signs.Semicolon a rest → init_declarators_height declarators ≤ allowed → init_declarators types allowed ts ≡ Some (declarators, rest)
unfolding init_declarators
init_declarators_complete types allowed [] ts types' a rest s semicolon low =
    ap (λ o. init_declarators_by types allowed o ts) (after_spelled Marks.Semicolon ts rest (subst (λ l. BySign Signs.Semicolon l rest) (sym s.1) semicolon))
init_declarators_complete types allowed (d ∷ more) ts types' a rest s semicolon low =
    ap (λ o. init_declarators_by types allowed o ts) (declarator_no_semicolon types d.declarator ts s.2.0 s.2.1)
    ∙ ap (λ o. then_read o (λ found a. and_after (after Marks.Semicolon a) (λ rest. Some (found, rest))))
    (one_or_more_complete (IsInit types allowed) StopsAssignment (init_declarator types allowed) (init_complete types allowed) (λ u b c q. init_shorter false types u b types c q.0)
    (λ b c q. mark_stops Marks.Comma 1 b c (omega arith) q) (d ∷ more) ts a (all_listed types allowed d more ts types' a s low)
    (mark_stops Marks.Semicolon 1 a rest (omega arith) semicolon) (ap (after Marks.Comma) semicolon.1))
    ∙ ap (λ o. and_after o (λ rest. Some (d ∷ more, rest))) (after_spelled Marks.Semicolon a rest semicolon)

pub local_declaration_sound : (types : List Name) (allowed : ℕ) (ts : List Token) (x : DeclarationTree × List Token) → local_declaration types allowed ts ≡ Some x → SpellsLocalDeclaration types x.0 ts x.1 × (declaration_height x.0 ≤ allowed)
unfolding local_declaration
local_declaration_sound types allowed ts x e =
    let a = then_read_some (specifiers types allowed ts) (λ found rest. local_after types allowed found rest) x e in
    let c = cond_some (is_type_name_list (count_as (as_specifiers a.0.0))) (then_read (init_declarators types allowed a.0.1) (λ declarators rest. Some (record { specifiers = as_specifiers a.0.0; declarators = declarators }, rest))) x a.2 in
    let b = then_read_some (init_declarators types allowed a.0.1) (λ declarators rest. Some (record { specifiers = as_specifiers a.0.0; declarators = declarators }, rest)) x c.1 in
    let s = specifiers_sound types allowed ts a.0 a.1 in
    let d = init_declarators_sound types allowed a.0.1 b.0 b.1 in
    subst (λ (y : DeclarationTree × List Token). SpellsLocalDeclaration types y.0 ts y.1 × (declaration_height y.0 ≤ allowed)) (from_some b.2)
    ((a.0.1, d.0, s.0, c.0, d.1, d.2), omega (arith, s.1, d.3))

-- declarators or a `;` end the specifiers before them
pub init_declarators_end : (typedef : Bool) (types : List Name) (declarators : List InitDeclaratorTree) (ts : List Token) (types' : List Name) (a rest : List Token) → SpellsInitDeclarators typedef types declarators ts types' a → BySign Signs.Semicolon a rest → ends_specifiers ts ≡ true
init_declarators_end typedef types [] ts types' a rest s semicolon = ap ends_specifiers (s.1 ∙ semicolon.1)
init_declarators_end typedef types (d ∷ more) ts types' a rest s semicolon = declarator_ends false types d.declarator ts s.2.0 s.2.1

pub local_declaration_complete : (types : List Name) (allowed : ℕ) (d : DeclarationTree) (ts rest : List Token) → SpellsLocalDeclaration types d ts rest → declaration_height d ≤ allowed → local_declaration types allowed ts ≡ Some (d, rest)
unfolding local_declaration
local_declaration_complete types allowed d ts rest s low =
    ap (λ o. then_read o (λ found rest. local_after types allowed found rest))
    (specifiers_complete types allowed d.specifiers ts s.0 s.2 (type_name_list_names_type (count_as d.specifiers) s.3) (omega arith) (init_declarators_end false types d.declarators s.0 types s.1 rest s.4 s.5))
    ∙ ap (λ t. cond (is_type_name_list (count_as t)) (then_read (init_declarators types allowed s.0) (λ declarators rest. Some (record { specifiers = t; declarators = declarators }, rest))) None) (as_listed d.specifiers)
    ∙ ap (λ b. cond b (then_read (init_declarators types allowed s.0) (λ declarators rest. Some (record { specifiers = d.specifiers; declarators = declarators }, rest))) None) s.3
    ∙ ap (λ o. then_read o (λ declarators rest. Some (record { specifiers = d.specifiers; declarators = declarators }, rest))) (init_declarators_complete types allowed d.declarators s.0 types s.1 rest s.4 s.5 (omega arith))

pub local_declaration_begins : (types : List Name) (d : DeclarationTree) (ts rest : List Token) → SpellsLocalDeclaration types d ts rest → begins_type types ts ≡ true
local_declaration_begins types d ts rest s = specifiers_begin types d.specifiers ts s.0 s.2 (type_name_list_names_type (count_as d.specifiers) s.3)

pub init_declarators_no_longer : (typedef : Bool) (types : List Name) (declarators : List InitDeclaratorTree) (ts : List Token) (types' : List Name) (rest : List Token) → SpellsInitDeclarators typedef types declarators ts types' rest → length rest ≤ length ts
init_declarators_no_longer typedef types [] ts types' rest s = let n : length ts ≡ length rest = ap length s.1 in omega arith
init_declarators_no_longer typedef types (d ∷ more) ts types' rest s = let a = init_declarators_shorter typedef types d more ts types' rest s in omega arith

pub local_declaration_shorter : (types : List Name) (d : DeclarationTree) (ts rest : List Token) → SpellsLocalDeclaration types d ts rest → length rest < length ts
local_declaration_shorter types d ts rest s =
    let a = specifiers_shorter types d.specifiers ts s.0 s.2 (type_name_list_names_type (count_as d.specifiers) s.3) in
    let b = init_declarators_no_longer false types d.declarators s.0 types s.1 s.4 in
    let c = by_shorter Signs.Semicolon s.1 rest s.5 in omega arith

-- ## Declarators at file scope

-- a declarator of a typedef, and the names of typedefs behind it
abbrev TypedefRead : List Name → ℕ → List Token → (InitDeclaratorTree × List Name) × List Token → Type 0
TypedefRead types allowed ts x = SpellsInitDeclarator true types x.0.0 ts x.0.1 x.1 × (init_declarator_height x.0.0 ≤ allowed)

typedef_after_sound : (types : List Name) (allowed : ℕ) (words : List PointerWord) (ts0 ts : List Token) (x : (InitDeclaratorTree × List Name) × List Token) → SpellsPointers words ts0 ts → BeginsWithStar words → typedef_after types allowed words ts ≡ Some x → TypedefRead types allowed ts0 x
unfolding typedef_after
typedef_after_sound types zero words ts0 ts x w star e = none_some e
typedef_after_sound types (suc h) words ts0 ts x w star e =
    let a = then_read_some (declarator_after false types h words ts) (λ d a. then_read (initialiser (with_declared true types (declared_name d)) h a) (λ i rest. Some ((record { declarator = d; initialiser = i }, with_declared true types (declared_name d)), rest))) x e in
    let b = then_read_some (initialiser (with_declared true types (declared_name a.0.0)) h a.0.1) (λ i rest. Some ((record { declarator = a.0.0; initialiser = i }, with_declared true types (declared_name a.0.0)), rest)) x a.2 in
    let d = with_pointers false types h words ts0 ts a.0 w star (declarator_after_sound false types h words ts a.0 a.1) in
    let i = initialiser_sound (with_declared true types (declared_name a.0.0)) h a.0.1 b.0 b.1 in
    subst (TypedefRead types (suc h) ts0) (from_some b.2) ((a.0.1, d.0, refl, i.0), omega (arith, d.1, i.1))

abbrev TypedefsRead : List Name → ℕ → List InitDeclaratorTree → List Token → (List InitDeclaratorTree × List Name) × List Token → Type 0
TypedefsRead types allowed found ts x =
    (more : List InitDeclaratorTree) × (x.0.0 ≡ found ++ more) × SpellsMoreInitDeclarators true types more ts x.0.1 x.1 × (init_declarators_height more ≤ allowed)

typedefs_from_sound : (allowed n : ℕ) (types : List Name) (found : List InitDeclaratorTree) (ts : List Token) (x : (List InitDeclaratorTree × List Name) × List Token) → typedefs_from allowed n types found ts ≡ Some x → TypedefsRead types allowed found ts x
unfolding typedefs_from
typedefs_from_sound allowed zero types found ts x e = subst (TypedefsRead types allowed found ts) (from_some e) ([], sym (append-nil found), (refl, refl), omega arith)
typedefs_from_sound allowed (suc n) types found ts x e = go (after Marks.Comma ts) refl (λ later before a. typedefs_from_sound allowed n later before a x) e
  where
    go : (o : Option (List Token)) → after Marks.Comma ts ≡ o
        → ((later : List Name) (before : List InitDeclaratorTree) (a : List Token) → typedefs_from allowed n later before a ≡ Some x → TypedefsRead later allowed before a x)
        → separated_by o ((found, types), ts) (λ a. then_read (typedef_after types allowed (pointers a).0 (pointers a).1) (λ y rest. typedefs_from allowed n y.1 (found ++ y.0 ∷ []) rest)) ≡ Some x → TypedefsRead types allowed found ts x
    go None h ih e = subst (TypedefsRead types allowed found ts) (from_some e) ([], sym (append-nil found), (refl, refl), omega arith)
    go (Some a) h ih e =
        let b = then_read_some (typedef_after types allowed (pointers a).0 (pointers a).1) (λ y rest. typedefs_from allowed n y.1 (found ++ y.0 ∷ []) rest) x e in
        let r = ih b.0.0.1 (found ++ b.0.0.0 ∷ []) b.0.1 b.2 in
        let p = pointers_sound a in
        let s = typedef_after_sound types allowed (pointers a).0 a (pointers a).1 b.0 p.0 p.1 b.1 in
        (b.0.0.0 ∷ r.0, r.1 ∙ append_assoc found (b.0.0.0 ∷ []) r.0, (a, b.0.1, b.0.0.1, after_finds Marks.Comma ts a h, s.0, r.2), omega (arith, s.1, r.3))

abbrev FileRead : List Name → ℕ → Bool → List Token → (List InitDeclaratorTree × List Name) × List Token → Type 0
FileRead types allowed typedef ts x = SpellsInitDeclarators typedef types x.0.0 ts x.0.1 x.1 × (init_declarators_height x.0.0 ≤ allowed)

rest_sound : (types : List Name) (allowed : ℕ) (typedef : Bool) (words : List PointerWord) (ts0 ts : List Token) (x : (List InitDeclaratorTree × List Name) × List Token) → SpellsPointers words ts0 ts → BeginsWithStar words → rest_of_declaration types allowed typedef words ts ≡ Some x → FileRead types allowed typedef ts0 x
rest_sound types allowed true words ts0 ts x w star e =
    let a = then_read_some (typedef_after types allowed words ts) (λ y rest. typedefs_from allowed (length rest) y.1 (y.0 ∷ []) rest) x e in
    let s = typedef_after_sound types allowed words ts0 ts a.0 w star a.1 in
    let r = typedefs_from_sound allowed (length a.0.1) a.0.0.1 (a.0.0.0 ∷ []) a.0.1 x a.2 in
    subst (λ l. SpellsInitDeclarators true types l ts0 x.0.1 x.1 × (init_declarators_height l ≤ allowed)) (sym r.1) ((a.0.1, a.0.0.1, s.0, r.2), omega (arith, s.1, r.3))
rest_sound types allowed false words ts0 ts x w star e =
    let a = then_read_some (init_declarator_after types allowed words ts) (λ y rest. then_read (separated (init_declarator types allowed) (length rest) (y ∷ []) rest) (λ found more. Some ((found, types), more))) x e in
    let b = then_read_some (separated (init_declarator types allowed) (length a.0.1) (a.0.0 ∷ []) a.0.1) (λ found more. Some ((found, types), more)) x a.2 in
    let s = init_after_sound types allowed words ts0 ts a.0 w star a.1 in
    let r = separated_sound (IsInit types allowed) (init_declarator types allowed) (init_sound types allowed) (length a.0.1) (a.0.0 ∷ []) a.0.1 b.0 b.1 in
    let m = all_spelled types allowed (a.0.0 ∷ r.0) ts0 b.0.1 (a.0.1, s, r.2) in
    subst (FileRead types allowed false ts0) (from_some b.2) (subst (λ l. SpellsInitDeclarators false types l ts0 types b.0.1 × (init_declarators_height l ≤ allowed)) (sym r.1) m)

pub file_declarators_sound : (types : List Name) (allowed : ℕ) (typedef : Bool) (words : List PointerWord) (ts0 ts : List Token) (x : (List InitDeclaratorTree × List Name) × List Token) → SpellsPointers words ts0 ts → BeginsWithStar words → file_declarators types allowed typedef words ts ≡ Some x → (a : List Token) × SpellsInitDeclarators typedef types x.0.0 ts0 x.0.1 a × BySign Signs.Semicolon a x.1 × (init_declarators_height x.0.0 ≤ allowed)
unfolding file_declarators
file_declarators_sound types allowed typedef words ts0 ts x pointed star e =
    let a = then_read_some (rest_of_declaration types allowed typedef words ts) (λ y a. and_after (after Marks.Semicolon a) (λ rest. Some (y, rest))) x e in
    let b = and_after_some (after Marks.Semicolon a.0.1) (λ rest. Some (a.0.0, rest)) x a.2 in
    let s = rest_sound types allowed typedef words ts0 ts a.0 pointed star a.1 in
    subst (λ (y : (List InitDeclaratorTree × List Name) × List Token). (a : List Token) × SpellsInitDeclarators typedef types y.0.0 ts0 y.0.1 a × BySign Signs.Semicolon a y.1 × (init_declarators_height y.0.0 ≤ allowed)) (from_some b.2)
    (a.0.1, s.0, after_finds Marks.Semicolon a.0.1 b.0 b.1, s.1)

typedef_complete : (types : List Name) (allowed : ℕ) (d : InitDeclaratorTree) (ts : List Token) (mid : List Name) (rest : List Token) → SpellsInitDeclarator true types d ts mid rest → init_declarator_height d ≤ allowed → StopsAssignment rest → typedef_after types allowed (pointers ts).0 (pointers ts).1 ≡ Some ((d, mid), rest)
unfolding typedef_after
typedef_complete types zero d ts mid rest s low stops = absurd (omega arith)
typedef_complete types (suc h) d ts mid rest s low stops =
    let q = declarator_parts false types d.declarator ts s.0 s.1 in
    let later = with_declared true types (declared_name d.declarator) in
    let i = subst (λ m. SpellsInitialiser m d.initialiser s.0 rest) s.2 s.3 in
    ap (λ (x : List PointerWord × List Token). typedef_after types (suc h) x.0 x.1) (declarator_pointers false types d.declarator ts q.0 s.0 q.1 q.2 q.3)
    ∙ ap (λ o. then_read o (λ d a. then_read (initialiser (with_declared true types (declared_name d)) h a) (λ i rest. Some ((record { declarator = d; initialiser = i }, with_declared true types (declared_name d)), rest))))
    (declarator_after_complete false types h d.declarator q.0 s.0 q.3 (omega arith) (behind_declarator later d.initialiser s.0 rest i stops))
    ∙ ap (λ o. then_read o (λ i rest. Some ((record { declarator = d.declarator; initialiser = i }, later), rest))) (initialiser_complete later h d.initialiser s.0 rest i (omega arith) stops)
    ∙ ap (λ m. Some ((d, m), rest)) (sym s.2)

-- what follows a declarator of a list that a `;` ends
more_stop : (typedef : Bool) (types : List Name) (more : List InitDeclaratorTree) (ts : List Token) (types' : List Name) (rest : List Token) → SpellsMoreInitDeclarators typedef types more ts types' rest → StopsAssignment rest → StopsAssignment ts
more_stop typedef types [] ts types' rest s stops = subst StopsAssignment (sym s.1) stops
more_stop typedef types (d ∷ more) ts types' rest s stops = mark_stops Marks.Comma 1 ts s.0 (omega arith) s.3

ended : (found found' : List InitDeclaratorTree) (types types' : List Name) (ts ts' : List Token) → found ≡ found' → types ≡ types' → ts ≡ ts' → ◌≡◌ {A = Option ((List InitDeclaratorTree × List Name) × List Token)} (Some ((found, types), ts)) (Some ((found', types'), ts'))
ended found found' types types' ts ts' e f g = λ i. Some ((e i, f i), g i)

typedefs_from_complete : (allowed : ℕ) (more : List InitDeclaratorTree) (n : ℕ) (types : List Name) (found : List InitDeclaratorTree) (ts : List Token) (types' : List Name) (rest : List Token) → SpellsMoreInitDeclarators true types more ts types' rest → init_declarators_height more ≤ allowed → StopsAssignment rest → after Marks.Comma rest ≡ None → length ts ≤ n
    → typedefs_from allowed n types found ts ≡ Some ((found ++ more, types'), rest)
unfolding typedefs_from
typedefs_from_complete allowed [] zero types found ts types' rest s low stops ends le = ended _ _ _ _ _ _ (sym (append-nil found)) s.0 s.1
typedefs_from_complete allowed [] (suc n) types found ts types' rest s low stops ends le =
    ap (λ o. separated_by o ((found, types), ts) (λ a. then_read (typedef_after types allowed (pointers a).0 (pointers a).1) (λ y rest. typedefs_from allowed n y.1 (found ++ y.0 ∷ []) rest))) (ap (after Marks.Comma) s.1 ∙ ends)
    ∙ ended _ _ _ _ _ _ (sym (append-nil found)) s.0 s.1
typedefs_from_complete allowed (d ∷ more) zero types found ts types' rest s low stops ends le =
    let less = by_shorter Signs.Comma ts s.0 s.3 in absurd (omega arith)
typedefs_from_complete allowed (d ∷ more) (suc n) types found ts types' rest s low stops ends le =
    let less = by_shorter Signs.Comma ts s.0 s.3 in
    let short = init_shorter true types d s.0 s.2 s.1 s.4 in
    ap (λ o. separated_by o ((found, types), ts) (λ a. then_read (typedef_after types allowed (pointers a).0 (pointers a).1) (λ y rest. typedefs_from allowed n y.1 (found ++ y.0 ∷ []) rest))) (after_spelled Marks.Comma ts s.0 s.3)
    ∙ ap (λ o. then_read o (λ y rest. typedefs_from allowed n y.1 (found ++ y.0 ∷ []) rest)) (typedef_complete types allowed d s.0 s.2 s.1 s.4 (omega arith) (more_stop true s.2 more s.1 types' rest s.5 stops))
    ∙ typedefs_from_complete allowed more n s.2 (found ++ d ∷ []) s.1 types' rest s.5 (omega arith) stops ends (omega arith)
    ∙ ended _ _ _ _ _ _ (append_assoc found (d ∷ []) more) refl refl

rest_complete : (types : List Name) (allowed : ℕ) (typedef : Bool) (d : InitDeclaratorTree) (more : List InitDeclaratorTree) (ts : List Token) (types' : List Name) (rest : List Token) → SpellsInitDeclarators typedef types (d ∷ more) ts types' rest → init_declarators_height (d ∷ more) ≤ allowed → StopsAssignment rest → after Marks.Comma rest ≡ None
    → rest_of_declaration types allowed typedef (pointers ts).0 (pointers ts).1 ≡ Some ((d ∷ more, types'), rest)
rest_complete types allowed true d more ts types' rest s low stops ends =
    ap (λ o. then_read o (λ y rest. typedefs_from allowed (length rest) y.1 (y.0 ∷ []) rest)) (typedef_complete types allowed d ts s.1 s.0 s.2 (omega arith) (more_stop true s.1 more s.0 types' rest s.3 stops))
    ∙ typedefs_from_complete allowed more (length s.0) s.1 (d ∷ []) s.0 types' rest s.3 (omega arith) stops ends (omega arith)
rest_complete types allowed false d more ts types' rest s low stops ends =
    let i : IsInit types allowed d ts s.0 = (subst (λ mid. SpellsInitDeclarator false types d ts mid s.0) s.2.2 s.2, omega arith) in
    let l = more_listed types allowed more s.0 types' rest (subst (λ mid. SpellsMoreInitDeclarators false mid more s.0 types' rest) s.2.2 s.3) (omega arith) in
    ap (λ o. then_read o (λ y rest. then_read (separated (init_declarator types allowed) (length rest) (y ∷ []) rest) (λ found more. Some ((found, types), more)))) (init_complete types allowed d ts s.0 i (more_stop false s.1 more s.0 types' rest s.3 stops))
    ∙ ap (λ o. then_read o (λ found more. Some ((found, types), more)))
    (separated_complete (IsInit types allowed) StopsAssignment (init_declarator types allowed) (init_complete types allowed) (λ u b c q. init_shorter false types u b types c q.0)
    (λ b c q. mark_stops Marks.Comma 1 b c (omega arith) q) more (length s.0) (d ∷ []) s.0 rest l stops ends (omega arith))
    ∙ ap (λ m. Some ((d ∷ more, m), rest)) (sym s.2.2 ∙ same_types s.1 more s.0 types' rest s.3)

pub file_declarators_complete : (types : List Name) (allowed : ℕ) (typedef : Bool) (d : InitDeclaratorTree) (more : List InitDeclaratorTree) (ts : List Token) (types' : List Name) (a rest : List Token) → SpellsInitDeclarators typedef types (d ∷ more) ts types' a → BySign Signs.Semicolon a rest → init_declarators_height (d ∷ more) ≤ allowed → file_declarators types allowed typedef (pointers ts).0 (pointers ts).1 ≡ Some ((d ∷ more, types'), rest)
unfolding file_declarators
file_declarators_complete types allowed typedef d more ts types' a rest s semicolon low =
    ap (λ o. then_read o (λ y a. and_after (after Marks.Semicolon a) (λ rest. Some (y, rest)))) (rest_complete types allowed typedef d more ts types' a s low (mark_stops Marks.Semicolon 1 a rest (omega arith) semicolon) (ap (after Marks.Comma) semicolon.1))
    ∙ ap (λ o. and_after o (λ rest. Some ((d ∷ more, types'), rest))) (after_spelled Marks.Semicolon a rest semicolon)
