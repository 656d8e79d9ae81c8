-- Specifiers, with the bodies of structures and enumerations: what is read is spelled, and what is spelled is read.
use Rattle.std.proofs.Common.{◌≡◌, ℕ, zero, suc, ◌<◌, ◌≤◌, Bool, true, false, cond, ◌||◌, List, [], ◌∷◌, ◌++◌, length, Option, Some, None, refl, sym, ap, ◌∙◌, subst, arith, append_assoc}
use Rattle.std.proofs.lemmas.List.{append-nil}
use Rattle.std.specs.Prelude.{IsTrue, ◌&&◌, ◌==◌, nat_le, max}
use Rattle.tm_terms.specs.declared.places.Place.{Place}
use Rattle.tm_terms.specs.declared.tokens.Name.{Name}
use Rattle.tm_terms.specs.declared.tokens.Sign.{Sign}
use Rattle.tm_terms.specs.declared.tokens.Sign.TheVariants as Signs
use Rattle.tm_terms.specs.declared.tokens.Shape.{Shape}
use Rattle.tm_terms.specs.declared.tokens.Shape.TheVariants as Shapes
use Rattle.tm_terms.specs.declared.tokens.Token.{Token}
use Rattle.tm_terms.specs.declared.types_named.Spec.{Spec}
use Rattle.tm_terms.specs.declared.types_named.SpecWord.TheVariants as Specs
use Rattle.tm_terms.specs.declared.types_named.TagKind.{TagKind}
use Rattle.tm_terms.specs.declared.types_named.TagKind.TheVariants as Tags
use Rattle.tm_terms.specs.declared.types_named.PointerWord.{PointerWord}
use Rattle.tm_terms.specs.declared.types_named.PointerWord.TheVariants as Pointers
use Rattle.tm_terms.specs.Names.{is_typedef}
use Rattle.tm_terms.specs.ExprSpelling.{BySign, SpellsPointers, BeginsWithStar, is_storage}
use Rattle.tm_terms.specs.ExprSpelling.{is_typedef_word, many, is_type_spec, is_type_list}
use Rattle.tm_terms.specs.ExprSpelling.{is_type_name_list}
use Rattle.c_expr_parser.specs.declared.marks.Mark.TheVariants as Marks
use Rattle.c_expr_parser.specs.reading.Parts.{then_read, and_after, after, spec_at, begins_type}
use Rattle.c_expr_parser.proofs.Tokens.{false_true, none_some, from_some, after_finds, after_spelled, then_read_some, and_after_some, cond_some, and_true}
use Rattle.c_expr_parser.proofs.TypeReading.{spec_at_finds, spec_at_spelled}
use Rattle.c_expr_parser.proofs.Sound.{le_true, by_shorter}
use Rattle.tm_trees.specs.declared.declarations.Tag.{Tag}
use Rattle.tm_trees.specs.DeclarationTrees.{DeclaratorTree, a_declared_name, a_nested, declarator_height, declarators_height, EnumeratorTree, enumerators_height, SpecifierTree, a_plain, a_struct, an_enum, SpecifierTrees, no_specifiers, and_specifier, MemberTrees, no_members, and_members, counts_as, count_as, as_specifiers, as_members, word_height, specifier_height, tallest_specifier, specifiers_height, members_height}
use Rattle.tm_trees.specs.DeclarationSpelling.{is_file_list, SpellsDeclarator, SpellsMoreMembers, SpellsMemberDeclarators, HasMembers, SpellsSpecifier, SpellsSpecifiers, SpellsMembers, SpellsEnumerators}
use Rattle.c_decl_parser.specs.reading.Repetitions.{one_or_more, until_brace, in_braces}
use Rattle.c_decl_parser.specs.reading.DeclarationDescent.{declarator, enumerator, Opened, opened, plain_by, found_specifier, specifier_by, specifier, specifiers_by, specifiers_from, member_after, members_by, body_by, specifiers, body, member}
use Rattle.c_decl_parser.proofs.ExpressionReading.{true_le}
use Rattle.c_decl_parser.proofs.RepetitionReading.{Relation, Separated, OneOrMore, UntilBrace, ReadsOnly, one_or_more_sound, until_brace_sound, ReadsAll, one_or_more_complete, until_brace_complete}
use Rattle.c_decl_parser.proofs.DeclaratorReading.{declarator_shorter, declarator_sound, declarator_complete, name_begins}
use Rattle.c_decl_parser.proofs.EnumeratorReading.{enumerators_sound, enumerators_complete}
use Rattle.c_decl_parser.proofs.TypeLists.{names_type, type_list_names}
use Rattle.c_decl_parser.proofs.SpecifierStarts.{OpenedSpelled, opened_finds, opened_spelled, not_opened, specifier_begins, type_no_mark, specifiers_no_brace, member_declarators_shorter, specifier_shorter, specifiers_no_longer}

-- ## Lists in trees

-- specifiers as a list
abbrev pub specifier_list : SpecifierTrees → List SpecifierTree
specifier_list no_specifiers = []
specifier_list (and_specifier s more) = s ∷ specifier_list more

pub as_listed : (s : SpecifierTrees) → as_specifiers (specifier_list s) ≡ s
as_listed no_specifiers = refl
as_listed (and_specifier s more) = ap (and_specifier s) (as_listed more)

abbrev member_list : MemberTrees → List (SpecifierTrees × List DeclaratorTree)
member_list no_members = []
member_list (and_members specifiers declarators members) = (specifiers, declarators) ∷ member_list members

as_member_list : (members : MemberTrees) → as_members (member_list members) ≡ members
as_member_list no_members = refl
as_member_list (and_members specifiers declarators members) = ap (and_members specifiers declarators) (as_member_list members)

pub file_list_names_type : (specs : List Spec) → is_file_list specs ≡ true → is_type_list specs ≡ true
file_list_names_type specs e = (and_true (is_type_list specs) (nat_le (many is_storage specs) 1) e).0

pub type_name_list_names_type : (specs : List Spec) → is_type_name_list specs ≡ true → is_type_list specs ≡ true
type_name_list_names_type specs e =
    let a = and_true (is_type_list specs && nat_le (many is_storage specs) 1) (many is_typedef_word specs == 0) e in
    (and_true (is_type_list specs) (nat_le (many is_storage specs) 1) a.0).0

-- ## What ends specifiers

-- A token that ends specifiers among which a type stands: a name, or a sign but `{`.
abbrev pub ends_by_sign : Sign → Bool
ends_by_sign Signs.OpenBrace = false
ends_by_sign _ = true

abbrev pub ends_by : Shape → Bool
ends_by (Shapes.Name n) = true
ends_by (Shapes.Sign sign) = ends_by_sign sign
ends_by _ = false

abbrev pub ends_specifiers : List Token → Bool
ends_specifiers [] = true
ends_specifiers (t ∷ ts) = ends_by t.shape

-- no specifier comes first, where `seen` says whether a type stands before it, and no body
abbrev Ends : List Name → Bool → List Token → Type 0
Ends types seen ts = (opened ts ≡ None) × (spec_at types seen ts ≡ None) × (after Marks.OpenBrace ts ≡ None)

ended : (types : List Name) (ts : List Token) → ends_specifiers ts ≡ true → Ends types true ts
unfolding opened
ended types [] e = (refl, refl, refl)
ended types (t ∷ ts) e = go t.shape e
  where
    never : (b : Bool) → b && false ≡ false
    never true = refl
    never false = refl

    no_brace : (sign : Sign) → ends_by_sign sign ≡ true → after Marks.OpenBrace ((record { shape = Shapes.Sign sign; place = t.place }) ∷ ts) ≡ None
    no_brace Signs.OpenBrace e = false_true e
    no_brace _ e = refl

    go : (shape : Shape) → ends_by shape ≡ true → Ends types true ((record { shape = shape; place = t.place }) ∷ ts)
    go (Shapes.Name n) e = (refl, ap (λ b. cond b (Some (record { word = Specs.Alias n; place = t.place }, ts)) None) (never (is_typedef types n)), refl)
    go (Shapes.Sign sign) e = (refl, refl, no_brace sign e)
    go _ e = false_true e

-- a pointer part before a token that ends specifiers
pub pointers_end : (words : List PointerWord) (ts rest : List Token) → SpellsPointers words ts rest → BeginsWithStar words → ends_specifiers rest ≡ true → ends_specifiers ts ≡ true
pointers_end [] ts rest s star e = ap ends_specifiers s ∙ e
pointers_end (Pointers.Star ∷ words) ts rest s star e = ap ends_specifiers s.2
pointers_end (Pointers.Const ∷ words) ts rest s star e = absurd star
pointers_end (Pointers.Volatile ∷ words) ts rest s star e = absurd star
pointers_end (Pointers.Restrict ∷ words) ts rest s star e = absurd star

-- a declarator ends the specifiers before it
pub declarator_ends : (is_member : Bool) (types : List Name) (d : DeclaratorTree) (ts rest : List Token) → SpellsDeclarator is_member types d ts rest → ends_specifiers ts ≡ true
declarator_ends is_member types (a_declared_name words n p sizes) ts rest s =
    pointers_end words ts s.0 s.2 s.3 (ap ends_specifiers (name_begins is_member types n p s.0 s.1 s.4))
declarator_ends is_member types (a_nested words d sizes) ts rest s = pointers_end words ts s.0 s.4 s.5 (ap ends_specifiers s.6.1)

-- ## One specifier and all that come first: what is read is spelled

-- what a body makes of the specifier that it opened
abbrev BodyRead : List Name → ℕ → Opened → List Token → SpecifierTree × List Token → Type 0
BodyRead types h o ts x = ((ts0 : List Token) (seen : Bool) → OpenedSpelled ts0 (o, ts) → SpellsSpecifier types seen x.0 ts0 x.1) × (specifier_height x.0 ≤ h)

abbrev ReadsBodies : List Name → ℕ → (Opened → List Token → Option (SpecifierTree × List Token)) → Type 0
ReadsBodies types h read = (o : Opened) (ts : List Token) (x : SpecifierTree × List Token) → read o ts ≡ Some x → BodyRead types h o ts x

abbrev IsSpecifier : List Name → Bool → ℕ → List Token → SpecifierTree × List Token → Type 0
IsSpecifier types seen h ts x = SpellsSpecifier types seen x.0 ts x.1 × (specifier_height x.0 ≤ h)

abbrev SpecifiersRead : List Name → Bool → ℕ → List SpecifierTree → List Token → List SpecifierTree × List Token → Type 0
SpecifiersRead types seen h found ts x =
    (more : List SpecifierTree) × (x.0 ≡ found ++ more) × SpellsSpecifiers types seen (as_specifiers more) ts x.1 × (tallest_specifier (as_specifiers more) ≤ h)

module _ (types : List Name) (h : ℕ) (read : Opened → List Token → Option (SpecifierTree × List Token)) (sound : ReadsBodies types h read) where
  body_found : (seen : Bool) (ts : List Token) (y : Opened × List Token) (x : SpecifierTree × List Token) → OpenedSpelled ts y → (r : Option (SpecifierTree × List Token)) → read y.0 y.1 ≡ r → found_specifier r ≡ Some (Some x) → IsSpecifier types seen h ts x
  body_found seen ts y x o None r e = none_some e
  body_found seen ts y x o (Some z) r e =
      let b = sound y.0 y.1 z r in subst (IsSpecifier types seen h ts) (from_some (from_some e)) (b.0 ts seen o, b.1)

  plain_found : (seen : Bool) (ts : List Token) (x : SpecifierTree × List Token) (r : Option (Spec × List Token)) → spec_at types seen ts ≡ r → plain_by h r ≡ Some (Some x) → IsSpecifier types seen h ts x
  plain_found seen ts x None r e = none_some (from_some e)
  plain_found seen ts x (Some z) r e =
      let c = cond_some (nat_le (word_height z.0.word) h) (Some (Some (a_plain z.0, z.1))) (Some x) e in
      subst (IsSpecifier types seen h ts) (from_some (from_some c.1)) (spec_at_finds types seen ts z r, le_true _ _ c.0)

  specifier_sound : (seen : Bool) (ts : List Token) (x : SpecifierTree × List Token) → specifier types seen h read ts ≡ Some (Some x) → IsSpecifier types seen h ts x
  unfolding specifier
  specifier_sound seen ts x e = go (opened ts) refl e
    where
      go : (o : Option (Opened × List Token)) → opened ts ≡ o → specifier_by types seen h read o ts ≡ Some (Some x) → IsSpecifier types seen h ts x
      go (Some y) o e = body_found seen ts y x (opened_finds ts y o) (read y.0 y.1) refl e
      go None o e = plain_found seen ts x (spec_at types seen ts) refl e

  specifiers_from_sound : (n : ℕ) (seen : Bool) (found : List SpecifierTree) (ts : List Token) (x : List SpecifierTree × List Token) → specifiers_from types h read n seen found ts ≡ Some x → SpecifiersRead types seen h found ts x
  unfolding specifiers_from
  specifiers_from_sound zero seen found ts x e = subst (SpecifiersRead types seen h found ts) (from_some e) ([], sym (append-nil found), refl, omega arith)
  specifiers_from_sound (suc n) seen found ts x e =
      go (specifier types seen h read ts) refl (λ later before a. specifiers_from_sound n later before a x) e
    where
      go : (o : Option (Option (SpecifierTree × List Token))) → specifier types seen h read ts ≡ o
          → ((later : Bool) (before : List SpecifierTree) (a : List Token) → specifiers_from types h read n later before a ≡ Some x → SpecifiersRead types later h before a x)
          → specifiers_by o (found, ts) (λ s rest. specifiers_from types h read n (seen || is_type_spec (counts_as s).word) (found ++ s ∷ []) rest) ≡ Some x → SpecifiersRead types seen h found ts x
      go None o ih e = none_some e
      go (Some None) o ih e = subst (SpecifiersRead types seen h found ts) (from_some e) ([], sym (append-nil found), refl, omega arith)
      go (Some (Some y)) o ih e =
          let r = ih (seen || is_type_spec (counts_as y.0).word) (found ++ y.0 ∷ []) y.1 e in
          let s = specifier_sound seen ts y o in
          (y.0 ∷ r.0, r.1 ∙ append_assoc found (y.0 ∷ []) r.0, (y.1, s.0, r.2), omega (arith, s.1, r.3))

  all_sound : (ts : List Token) (x : List SpecifierTree × List Token) → specifiers_from types h read (length ts) false [] ts ≡ Some x → SpellsSpecifiers types false (as_specifiers x.0) ts x.1 × (tallest_specifier (as_specifiers x.0) ≤ h)
  all_sound ts x e =
      let r = specifiers_from_sound (length ts) false [] ts x e in
      subst (λ l. SpellsSpecifiers types false (as_specifiers l) ts x.1 × (tallest_specifier (as_specifiers l) ≤ h)) (sym r.1) (r.2, r.3)

-- ## Members and bodies: what is read is spelled

abbrev IsDeclarator : List Name → ℕ → Relation DeclaratorTree
IsDeclarator types h d ts rest = SpellsDeclarator true types d ts rest × (declarator_height d ≤ h)

abbrev IsMember : List Name → ℕ → Relation (SpecifierTrees × List DeclaratorTree)
IsMember types h m ts rest =
    (a : List Token) × (b : List Token) × SpellsSpecifiers types false m.0 ts a × IsTrue (is_type_name_list (count_as m.0)) × SpellsMemberDeclarators types m.1 a b
    × BySign Signs.Semicolon b rest × (suc (max (specifiers_height m.0) (declarators_height m.1)) ≤ h)

more_declarators_spelled : (types : List Name) (h : ℕ) (declarators : List DeclaratorTree) (ts rest : List Token) → Separated (IsDeclarator types h) declarators ts rest → SpellsMoreMembers types declarators ts rest × (declarators_height declarators ≤ h)
more_declarators_spelled types h [] ts rest s = (s, omega arith)
more_declarators_spelled types h (d ∷ declarators) ts rest s =
    let r = more_declarators_spelled types h declarators s.1 rest s.4 in ((s.0, s.1, s.2, s.3.0, r.0), omega (arith, s.3.1, r.1))

declarators_spelled : (types : List Name) (h : ℕ) (declarators : List DeclaratorTree) (ts rest : List Token) → OneOrMore (IsDeclarator types h) declarators ts rest → SpellsMemberDeclarators types declarators ts rest × (declarators_height declarators ≤ h)
declarators_spelled types h [] ts rest s = absurd s
declarators_spelled types h (d ∷ declarators) ts rest s =
    let r = more_declarators_spelled types h declarators s.0 rest s.2 in ((s.0, s.1.0, r.0), omega (arith, s.1.1, r.1))

members_spelled : (types : List Name) (h : ℕ) (members : List (SpecifierTrees × List DeclaratorTree)) (ts rest : List Token) → UntilBrace (IsMember types h) members ts rest → SpellsMembers types (as_members members) ts rest × (members_height (as_members members) ≤ h)
members_spelled types h [] ts rest s = (s, omega arith)
members_spelled types h (m ∷ members) ts rest s =
    let r = members_spelled types h members s.0 rest s.2 in let q = s.1 in
    ((q.0, q.1, s.0, q.2, q.3, q.4, q.5, r.0), omega (arith, q.6, r.1))

member_after_sound : (types : List Name) (h : ℕ) (found : List SpecifierTree) (ts0 ts : List Token) (x : (SpecifierTrees × List DeclaratorTree) × List Token) → SpellsSpecifiers types false (as_specifiers found) ts0 ts → specifiers_height (as_specifiers found) ≤ h → member_after types h found ts ≡ Some x → IsMember types (suc h) x.0 ts0 x.1
member_after_sound types h found ts0 ts x s low e =
    let c = cond_some (is_type_name_list (count_as (as_specifiers found))) (then_read (one_or_more (declarator true types h) ts) (λ declarators a. and_after (after Marks.Semicolon a) (λ rest. Some ((as_specifiers found, declarators), rest)))) x e in
    let a = then_read_some (one_or_more (declarator true types h) ts) (λ declarators a. and_after (after Marks.Semicolon a) (λ rest. Some ((as_specifiers found, declarators), rest))) x c.1 in
    let b = and_after_some (after Marks.Semicolon a.0.1) (λ rest. Some ((as_specifiers found, a.0.0), rest)) x a.2 in
    let d = declarators_spelled types h a.0.0 ts a.0.1 (one_or_more_sound (IsDeclarator types h) (declarator true types h) (λ u y f. declarator_sound true types h u y f) ts a.0 a.1) in
    subst (λ (y : (SpecifierTrees × List DeclaratorTree) × List Token). IsMember types (suc h) y.0 ts0 y.1) (from_some b.2)
    (ts, a.0.1, s, c.0, d.0, after_finds Marks.Semicolon a.0.1 b.0 b.1, omega (arith, low, d.1))

module _ (types : List Name) (h : ℕ) (read : List Token → Option ((SpecifierTrees × List DeclaratorTree) × List Token)) (sound : ReadsOnly (IsMember types h) read) where
  -- at least one member, and the `}`
  MembersRead : List Token → List (SpecifierTrees × List DeclaratorTree) × List Token → Type 0
  MembersRead ts x = HasMembers (as_members x.0) × SpellsMembers types (as_members x.0) ts x.1 × (members_height (as_members x.0) ≤ h)

  members_sound : (ts : List Token) (x : List (SpecifierTrees × List DeclaratorTree) × List Token) → members_by read ts ≡ Some x → MembersRead ts x
  unfolding MembersRead
  members_sound ts x e =
      let a = then_read_some (read ts) (λ m rest. until_brace read (length rest) (m ∷ []) rest) x e in
      let r = until_brace_sound (IsMember types h) read sound (length a.0.1) (a.0.0 ∷ []) a.0.1 x a.2 in
      let m = members_spelled types h (a.0.0 ∷ r.0) ts x.1 (a.0.1, sound ts a.0 a.1, r.2) in
      subst (λ l. HasMembers (as_members l) × SpellsMembers types (as_members l) ts x.1 × (members_height (as_members l) ≤ h)) (sym r.1) (tt, m.0, m.1)

  body_by_sound : (kind : TagKind) (tag : Option Tag) (p : Place) (ts : List Token) (x : SpecifierTree × List Token) → body_by types h read kind tag p ts ≡ Some x → BodyRead types (suc h) (record { kind = kind; tag = tag; place = p }) ts x
  unfolding MembersRead
  body_by_sound Tags.Struct tag p ts x e =
      let a = then_read_some (members_by read ts) (λ members rest. Some (a_struct tag (as_members members) p, rest)) x e in
      let m = members_sound ts a.0 a.1 in
      subst (BodyRead types (suc h) (record { kind = Tags.Struct; tag = tag; place = p }) ts) (from_some a.2)
      (λ ts0 seen o. (o.0, o.1, ts, o.2, o.3, o.4, m.0, m.1), omega (arith, m.2))
  body_by_sound Tags.Enum tag p ts x e =
      let a = then_read_some (in_braces (enumerator types h) ts) (λ enumerators rest. Some (an_enum tag enumerators p, rest)) x e in
      let m = enumerators_sound types h ts a.0 a.1 in
      subst (BodyRead types (suc h) (record { kind = Tags.Enum; tag = tag; place = p }) ts) (from_some a.2)
      (λ ts0 seen o. (o.0, o.1, ts, o.2, o.3, o.4, m.0), omega (arith, m.1))

mutual
  unfolding specifiers body member

  pub specifiers_sound : (types : List Name) (allowed : ℕ) (ts : List Token) (x : List SpecifierTree × List Token) → specifiers types allowed ts ≡ Some x → SpellsSpecifiers types false (as_specifiers x.0) ts x.1 × (specifiers_height (as_specifiers x.0) ≤ allowed)
  specifiers_sound types zero ts x e = none_some e
  specifiers_sound types (suc h) ts x e =
      let r = all_sound types h (body types h) (λ o a y f. body_sound types h o a y f) ts x e in (r.0, omega (arith, r.1))

  body_sound : (types : List Name) (allowed : ℕ) (o : Opened) (ts : List Token) (x : SpecifierTree × List Token) → body types allowed o ts ≡ Some x → BodyRead types allowed o ts x
  body_sound types zero o ts x e = none_some e
  body_sound types (suc h) o ts x e = body_by_sound types h (member types h) (λ a y f. member_sound types h a y f) o.kind o.tag o.place ts x e

  member_sound : (types : List Name) (allowed : ℕ) (ts : List Token) (x : (SpecifierTrees × List DeclaratorTree) × List Token) → member types allowed ts ≡ Some x → IsMember types allowed x.0 ts x.1
  member_sound types zero ts x e = none_some e
  member_sound types (suc h) ts x e =
      let a = then_read_some (specifiers types h ts) (λ found rest. member_after types h found rest) x e in
      let s = specifiers_sound types h ts a.0 a.1 in
      member_after_sound types h a.0.0 ts a.0.1 x s.0 s.1 a.2

-- ## What specifiers begin with, and their length

-- they begin as a type name does
pub specifiers_begin : (types : List Name) (s : SpecifierTrees) (ts rest : List Token) → SpellsSpecifiers types false s ts rest → is_type_list (count_as s) ≡ true → begins_type types ts ≡ true
specifiers_begin types no_specifiers ts rest r named = false_true named
specifiers_begin types (and_specifier x more) ts rest r named = specifier_begins types false x ts r.0 r.1

pub specifiers_shorter : (types : List Name) (s : SpecifierTrees) (ts rest : List Token) → SpellsSpecifiers types false s ts rest → is_type_list (count_as s) ≡ true → length rest < length ts
specifiers_shorter types no_specifiers ts rest r named = false_true named
specifiers_shorter types (and_specifier x more) ts rest r named =
    let a = specifier_shorter types false x ts r.0 r.1 in
    let b = specifiers_no_longer types (false || is_type_spec (counts_as x).word) more r.0 rest r.2 in omega arith

member_shorter : (types : List Name) (h : ℕ) (m : SpecifierTrees × List DeclaratorTree) (ts rest : List Token) → IsMember types h m ts rest → length rest < length ts
member_shorter types h m ts rest s =
    let a = specifiers_no_longer types false m.0 ts s.0 s.2 in let b = member_declarators_shorter types m.1 s.0 s.1 s.4 in
    let c = by_shorter Signs.Semicolon s.1 rest s.5 in omega arith

member_begins : (types : List Name) (h : ℕ) (m : SpecifierTrees × List DeclaratorTree) (ts rest : List Token) → IsMember types h m ts rest → after Marks.CloseBrace ts ≡ None
member_begins types h m ts rest s = type_no_mark types Marks.CloseBrace ts (specifiers_begin types m.0 ts s.0 s.2 (type_name_list_names_type (count_as m.0) s.3))

-- ## One specifier and all that come first: what is spelled is read

abbrev ReadsStructs : List Name → ℕ → (Opened → List Token → Option (SpecifierTree × List Token)) → Type 0
ReadsStructs types h read = (tag : Option Tag) (members : MemberTrees) (p : Place) (ts rest : List Token) → HasMembers members → SpellsMembers types members ts rest → suc (members_height members) ≤ h
    → read (record { kind = Tags.Struct; tag = tag; place = p }) ts ≡ Some (a_struct tag members p, rest)

abbrev ReadsEnums : List Name → ℕ → (Opened → List Token → Option (SpecifierTree × List Token)) → Type 0
ReadsEnums types h read = (tag : Option Tag) (enumerators : List EnumeratorTree) (p : Place) (ts rest : List Token) → SpellsEnumerators types enumerators ts rest → suc (enumerators_height enumerators) ≤ h
    → read (record { kind = Tags.Enum; tag = tag; place = p }) ts ≡ Some (an_enum tag enumerators p, rest)

module _ (types : List Name) (h : ℕ) (read : Opened → List Token → Option (SpecifierTree × List Token)) (structs : ReadsStructs types h read) (enums : ReadsEnums types h read) where
  -- a tag alone is not followed by a `{`
  specifier_complete : (seen : Bool) (s : SpecifierTree) (ts rest : List Token) → SpellsSpecifier types seen s ts rest → specifier_height s ≤ h → after Marks.OpenBrace rest ≡ None → specifier types seen h read ts ≡ Some (Some (s, rest))
  unfolding specifier
  specifier_complete seen (a_plain x) ts rest s low ends =
      ap (λ o. specifier_by types seen h read o ts) (not_opened types seen x.word x.place ts rest s ends)
      ∙ ap (plain_by h) (spec_at_spelled types seen x.word x.place ts rest s)
      ∙ ap (λ b. cond b (Some (Some (a_plain x, rest))) None) (true_le (word_height x.word) h low)
  specifier_complete seen (a_struct tag members p) ts rest s low ends =
      ap (λ o. specifier_by types seen h read o ts) (opened_spelled Tags.Struct tag p ts s.0 s.1 s.2 s.3 s.4 s.5)
      ∙ ap found_specifier (structs tag members p s.2 rest s.6 s.7 low)
  specifier_complete seen (an_enum tag enumerators p) ts rest s low ends =
      ap (λ o. specifier_by types seen h read o ts) (opened_spelled Tags.Enum tag p ts s.0 s.1 s.2 s.3 s.4 s.5)
      ∙ ap found_specifier (enums tag enumerators p s.2 rest s.6 low)

  none_begins : (seen : Bool) (ts : List Token) → opened ts ≡ None → spec_at types seen ts ≡ None → specifier types seen h read ts ≡ Some None
  unfolding specifier
  none_begins seen ts o e = ap (λ o. specifier_by types seen h read o ts) o ∙ ap (plain_by h) e

  pair : (a b : List SpecifierTree) (ts rest : List Token) → a ≡ b → ts ≡ rest → ◌≡◌ {A = List SpecifierTree × List Token} (a, ts) (b, rest)
  pair a b ts rest e f = λ i. (e i, f i)

  specifiers_from_complete : (s : SpecifierTrees) (n : ℕ) (seen : Bool) (found : List SpecifierTree) (ts rest : List Token) → SpellsSpecifiers types seen s ts rest → tallest_specifier s ≤ h → Ends types (names_type seen (count_as s)) rest → length ts ≤ n
      → specifiers_from types h read n seen found ts ≡ Some (found ++ specifier_list s, rest)
  unfolding specifiers_from
  specifiers_from_complete no_specifiers zero seen found ts rest r low ends le = ap Some (pair _ _ _ _ (sym (append-nil found)) r)
  specifiers_from_complete no_specifiers (suc n) seen found ts rest r low ends le =
      ap (λ o. specifiers_by o (found, ts) (λ s rest. specifiers_from types h read n (seen || is_type_spec (counts_as s).word) (found ++ s ∷ []) rest)) (none_begins seen ts (ap opened r ∙ ends.0) (ap (spec_at types seen) r ∙ ends.1))
      ∙ ap Some (pair _ _ _ _ (sym (append-nil found)) r)
  specifiers_from_complete (and_specifier x more) zero seen found ts rest r low ends le =
      let short = specifier_shorter types seen x ts r.0 r.1 in absurd (omega arith)
  specifiers_from_complete (and_specifier x more) (suc n) seen found ts rest r low ends le =
      let short = specifier_shorter types seen x ts r.0 r.1 in
      let later = seen || is_type_spec (counts_as x).word in
      ap (λ o. specifiers_by o (found, ts) (λ s rest. specifiers_from types h read n (seen || is_type_spec (counts_as s).word) (found ++ s ∷ []) rest))
      (specifier_complete seen x ts r.0 r.1 (omega arith) (specifiers_no_brace types later more r.0 rest r.2 ends.2))
      ∙ specifiers_from_complete more n later (found ++ x ∷ []) r.0 rest r.2 (omega arith) ends (omega arith)
      ∙ ap Some (pair _ _ _ _ (append_assoc found (x ∷ []) (specifier_list more)) refl)

  all_complete : (s : SpecifierTrees) (ts rest : List Token) → SpellsSpecifiers types false s ts rest → is_type_list (count_as s) ≡ true → tallest_specifier s ≤ h → ends_specifiers rest ≡ true → specifiers_from types h read (length ts) false [] ts ≡ Some (specifier_list s, rest)
  all_complete s ts rest r named low ends =
      specifiers_from_complete s (length ts) false [] ts rest r low (subst (λ b. Ends types b rest) (sym (type_list_names (count_as s) named)) (ended types rest ends)) (omega arith)

-- ## Members and bodies: what is spelled is read

more_declarators_listed : (types : List Name) (h : ℕ) (declarators : List DeclaratorTree) (ts rest : List Token) → SpellsMoreMembers types declarators ts rest → declarators_height declarators ≤ h → Separated (IsDeclarator types h) declarators ts rest
more_declarators_listed types h [] ts rest s low = s
more_declarators_listed types h (d ∷ declarators) ts rest s low =
    (s.0, s.1, s.2, (s.3, omega arith), more_declarators_listed types h declarators s.1 rest s.4 (omega arith))

declarators_listed : (types : List Name) (h : ℕ) (declarators : List DeclaratorTree) (ts rest : List Token) → SpellsMemberDeclarators types declarators ts rest → declarators_height declarators ≤ h → OneOrMore (IsDeclarator types h) declarators ts rest
declarators_listed types h [] ts rest s low = absurd s
declarators_listed types h (d ∷ declarators) ts rest s low =
    (s.0, (s.1, omega arith), more_declarators_listed types h declarators s.0 rest s.2 (omega arith))

declarators_end : (types : List Name) (declarators : List DeclaratorTree) (ts rest : List Token) → SpellsMemberDeclarators types declarators ts rest → ends_specifiers ts ≡ true
declarators_end types [] ts rest s = absurd s
declarators_end types (d ∷ declarators) ts rest s = declarator_ends true types d ts s.0 s.1

members_listed : (types : List Name) (h : ℕ) (members : MemberTrees) (ts rest : List Token) → SpellsMembers types members ts rest → members_height members ≤ h → UntilBrace (IsMember types h) (member_list members) ts rest
members_listed types h no_members ts rest s low = s
members_listed types h (and_members first declarators members) ts rest s low =
    (s.2, (s.0, s.1, s.3, s.4, s.5, s.6, omega arith), members_listed types h members s.2 rest s.7 (omega arith))

abbrev NoLength : List Token → Type 0
NoLength ts = after Marks.OpenBracket ts ≡ None

member_after_complete : (types : List Name) (h : ℕ) (s : SpecifierTrees) (declarators : List DeclaratorTree) (ts a rest : List Token) → IsTrue (is_type_name_list (count_as s)) → SpellsMemberDeclarators types declarators ts a → BySign Signs.Semicolon a rest → declarators_height declarators ≤ h
    → member_after types h (specifier_list s) ts ≡ Some ((s, declarators), rest)
member_after_complete types h s declarators ts a rest named d semicolon low =
    ap (λ s. cond (is_type_name_list (count_as s)) (then_read (one_or_more (declarator true types h) ts) (λ declarators a. and_after (after Marks.Semicolon a) (λ rest. Some ((s, declarators), rest)))) None) (as_listed s)
    ∙ ap (λ b. cond b (then_read (one_or_more (declarator true types h) ts) (λ declarators a. and_after (after Marks.Semicolon a) (λ rest. Some ((s, declarators), rest)))) None) named
    ∙ ap (λ o. then_read o (λ declarators a. and_after (after Marks.Semicolon a) (λ rest. Some ((s, declarators), rest))))
    (one_or_more_complete (IsDeclarator types h) NoLength (declarator true types h) (λ d u v q f. declarator_complete true types h d u v q.0 q.1 f) (λ d u v q. declarator_shorter true types d u v q.0)
    (λ u v q. ap (after Marks.OpenBracket) q.1) declarators ts a (declarators_listed types h declarators ts a d low) (ap (after Marks.OpenBracket) semicolon.1) (ap (after Marks.Comma) semicolon.1))
    ∙ ap (λ o. and_after o (λ rest. Some ((s, declarators), rest))) (after_spelled Marks.Semicolon a rest semicolon)

-- a declaration of members is read whatever follows it
abbrev Always : List Token → Type 0
Always ts = Unit {0}

members_by_complete : (types : List Name) (h : ℕ) (read : List Token → Option ((SpecifierTrees × List DeclaratorTree) × List Token)) → ReadsAll (IsMember types h) Always read → (members : MemberTrees) (ts rest : List Token) → HasMembers members → SpellsMembers types members ts rest → members_height members ≤ h
    → members_by read ts ≡ Some (member_list members, rest)
members_by_complete types h read complete no_members ts rest has s low = absurd has
members_by_complete types h read complete (and_members specifiers declarators members) ts rest has s low =
    let l = members_listed types h (and_members specifiers declarators members) ts rest s low in
    ap (λ o. then_read o (λ m rest. until_brace read (length rest) (m ∷ []) rest)) (complete (specifiers, declarators) ts l.0 l.1 tt)
    ∙ until_brace_complete (IsMember types h) Always read complete (member_shorter types h) (λ u. tt) (member_begins types h) (member_list members) (length l.0) ((specifiers, declarators) ∷ []) l.0 rest l.2 (omega arith)

enum_complete : (types : List Name) (allowed : ℕ) → ReadsEnums types allowed (body types allowed)
unfolding body
enum_complete types zero tag enumerators p ts rest s low = absurd (omega arith)
enum_complete types (suc h) tag enumerators p ts rest s low =
    ap (λ o. then_read o (λ enumerators rest. Some (an_enum tag enumerators p, rest))) (enumerators_complete types h enumerators ts rest s (omega arith))

mutual
  unfolding specifiers body member

  -- specifiers that name a type, before a token that ends them
  pub specifiers_complete : (types : List Name) (allowed : ℕ) (s : SpecifierTrees) (ts rest : List Token) → SpellsSpecifiers types false s ts rest → is_type_list (count_as s) ≡ true → specifiers_height s ≤ allowed → ends_specifiers rest ≡ true → specifiers types allowed ts ≡ Some (specifier_list s, rest)
  specifiers_complete types zero s ts rest r named low ends = absurd (omega arith)
  specifiers_complete types (suc h) s ts rest r named low ends =
      all_complete types h (body types h) (λ tag given p a b has q tall. struct_complete types h tag given p a b has q tall) (enum_complete types h) s ts rest r named (omega arith) ends

  struct_complete : (types : List Name) (allowed : ℕ) → ReadsStructs types allowed (body types allowed)
  struct_complete types zero tag _ p ts rest has s low = absurd (omega arith)
  struct_complete types (suc h) tag given p ts rest has s low =
      ap (λ o. then_read o (λ members rest. Some (a_struct tag (as_members members) p, rest))) (members_by_complete types h (member types h) (λ m a b q f. member_complete types h m a b q) given ts rest has s (omega arith))
      ∙ ap (λ ms. Some (a_struct tag ms p, rest)) (as_member_list given)

  member_complete : (types : List Name) (allowed : ℕ) (m : SpecifierTrees × List DeclaratorTree) (ts rest : List Token) → IsMember types allowed m ts rest → member types allowed ts ≡ Some (m, rest)
  member_complete types zero m ts rest q = absurd (omega (arith, q.6))
  member_complete types (suc h) m ts rest q =
      ap (λ o. then_read o (λ found rest. member_after types h found rest)) (specifiers_complete types h m.0 ts q.0 q.2 (type_name_list_names_type (count_as m.0) q.3) (omega (arith, q.6)) (declarators_end types m.1 q.0 q.1 q.4))
      ∙ member_after_complete types h m.0 m.1 q.0 q.1 rest q.3 q.4 q.5 (omega (arith, q.6))
