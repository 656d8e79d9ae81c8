-- What specifiers begin with, the `{` of structures and enumerations, and that specifiers are tokens.
use Rattle.std.proofs.Common.{◌≡◌, ◌<◌, ◌≤◌, Bool, true, false, ◌||◌, List, [], ◌∷◌, length, Option, Some, None, refl, sym, ap, ◌∙◌, subst, arith}
use Rattle.tm_terms.specs.declared.places.Place.{Place}
use Rattle.tm_terms.specs.declared.tokens.Name.{Name}
use Rattle.tm_terms.specs.declared.tokens.Word.{Word}
use Rattle.tm_terms.specs.declared.tokens.Word.TheVariants as Words
use Rattle.tm_terms.specs.declared.tokens.Sign.TheVariants as Signs
use Rattle.tm_terms.specs.declared.tokens.Shape.{Shape}
use Rattle.tm_terms.specs.declared.tokens.Shape.TheVariants as Shapes
use Rattle.tm_terms.specs.declared.tokens.Token.{Token}
use Rattle.tm_terms.specs.declared.types_named.SpecWord.{SpecWord}
use Rattle.tm_terms.specs.declared.types_named.SpecWord.TheVariants as Specs
use Rattle.tm_terms.specs.declared.types_named.TagKind.{TagKind}
use Rattle.tm_terms.specs.declared.types_named.TagKind.TheVariants as Tags
use Rattle.tm_terms.specs.ExprSpelling.{Begins, BySign, spec_of, tag_word, is_type_spec, SpellsSpec}
use Rattle.c_expr_parser.specs.declared.marks.Mark.{Mark}
use Rattle.c_expr_parser.specs.declared.marks.Mark.TheVariants as Marks
use Rattle.c_expr_parser.specs.reading.Parts.{and_after, after, name_at, begins_word, begins_type}
use Rattle.c_expr_parser.proofs.Tokens.{false_true, none_some, from_some, after_finds, after_spelled, name_at_finds, name_at_spelled, and_after_some, begins_shorter}
use Rattle.c_expr_parser.proofs.TypeReading.{spec_shorter}
use Rattle.c_expr_parser.proofs.Sound.{by_shorter}
use Rattle.tm_trees.specs.declared.declarations.Tag.{Tag}
use Rattle.tm_trees.specs.DeclarationTrees.{DeclaratorTree, SpecifierTree, a_plain, a_struct, an_enum, SpecifierTrees, no_specifiers, and_specifier, MemberTrees, no_members, and_members, counts_as}
use Rattle.tm_trees.specs.DeclarationSpelling.{SpellsTag, SpellsMoreMembers, SpellsMemberDeclarators, SpellsSpecifier, SpellsSpecifiers, SpellsMembers}
use Rattle.c_decl_parser.specs.reading.DeclarationDescent.{Opened, tag_by, tag_at, opened_by, opened_word, opened_shape, opened}
use Rattle.c_decl_parser.proofs.DeclaratorReading.{declarator_shorter}
use Rattle.c_decl_parser.proofs.EnumeratorReading.{enumerators_shorter}

-- ## What opens a body

-- `struct` or `enum`, a tag or nothing, and the `{`
abbrev pub OpenedSpelled : List Token → Opened × List Token → Type 0
OpenedSpelled ts x = (a : List Token) × (b : List Token) × Begins (Shapes.Word (tag_word x.0.kind)) x.0.place ts a × SpellsTag x.0.tag a b × BySign Signs.OpenBrace b x.1

tag_at_finds : (ts : List Token) → SpellsTag (tag_at ts).0 ts (tag_at ts).1
tag_at_finds ts = go (name_at ts) refl
  where
    go : (o : Option ((Name × Place) × List Token)) → name_at ts ≡ o → SpellsTag (tag_by o ts).0 ts (tag_by o ts).1
    go None h = refl
    go (Some x) h = name_at_finds ts x h

opened_by_finds : (kind : TagKind) (p : Place) (ts0 ts : List Token) (x : Opened × List Token) → Begins (Shapes.Word (tag_word kind)) p ts0 ts → opened_by kind p (tag_at ts) ≡ Some x → OpenedSpelled ts0 x
opened_by_finds kind p ts0 ts x b e =
    let a = and_after_some (after Marks.OpenBrace (tag_at ts).1) (λ rest. Some (record { kind = kind; tag = (tag_at ts).0; place = p }, rest)) x e in
    subst (OpenedSpelled ts0) (from_some a.2) (ts, (tag_at ts).1, b, tag_at_finds ts, after_finds Marks.OpenBrace (tag_at ts).1 a.0 a.1)

opened_word_finds : (w : Word) (p : Place) (ts : List Token) (x : Opened × List Token) → opened_word w p ts ≡ Some x → OpenedSpelled ((record { shape = Shapes.Word w; place = p }) ∷ ts) x
opened_word_finds Words.Struct p ts x e = opened_by_finds Tags.Struct p _ ts x refl e
opened_word_finds Words.Enum p ts x e = opened_by_finds Tags.Enum p _ ts x refl e
opened_word_finds _ p ts x e = none_some e

opened_shape_finds : (shape : Shape) (p : Place) (ts : List Token) (x : Opened × List Token) → opened_shape shape p ts ≡ Some x → OpenedSpelled ((record { shape = shape; place = p }) ∷ ts) x
opened_shape_finds (Shapes.Word w) p ts x e = opened_word_finds w p ts x e
opened_shape_finds _ p ts x e = none_some e

pub opened_finds : (ts : List Token) (x : Opened × List Token) → opened ts ≡ Some x → OpenedSpelled ts x
unfolding opened
opened_finds [] x e = none_some e
opened_finds (t ∷ ts) x e = opened_shape_finds t.shape t.place ts x e

tag_spelled : (tag : Option Tag) (ts rest next : List Token) → SpellsTag tag ts rest → BySign Signs.OpenBrace rest next → tag_at ts ≡ (tag, rest)
tag_spelled None ts rest next s open_is =
    let e : ◌≡◌ {A = Option Tag × List Token} (None, ts) (None, rest) = λ i. (None, s i) in
    ap (λ o. tag_by o ts) (ap name_at (s ∙ open_is.1)) ∙ e
tag_spelled (Some tag) ts rest next s open_is = ap (λ o. tag_by o ts) (name_at_spelled tag.name tag.place ts rest s)

opened_after : (kind : TagKind) (tag : Option Tag) (p : Place) (ts rest next : List Token) → SpellsTag tag ts rest → BySign Signs.OpenBrace rest next → opened_by kind p (tag_at ts) ≡ Some (record { kind = kind; tag = tag; place = p }, next)
opened_after kind tag p ts rest next s open_is =
    ap (opened_by kind p) (tag_spelled tag ts rest next s open_is)
    ∙ ap (λ o. and_after o (λ l. Some (record { kind = kind; tag = tag; place = p }, l))) (after_spelled Marks.OpenBrace rest next open_is)

pub opened_spelled : (kind : TagKind) (tag : Option Tag) (p : Place) (ts a b c : List Token) → Begins (Shapes.Word (tag_word kind)) p ts a → SpellsTag tag a b → BySign Signs.OpenBrace b c → opened ts ≡ Some (record { kind = kind; tag = tag; place = p }, c)
unfolding opened
opened_spelled Tags.Struct tag p ts a b c s t open_is = ap opened s ∙ opened_after Tags.Struct tag p a b c t open_is
opened_spelled Tags.Enum tag p ts a b c s t open_is = ap opened s ∙ opened_after Tags.Enum tag p a b c t open_is

-- a word, a typedef name or a tag alone opens none
word_not_opened : (w : Word) (word : SpecWord) (p : Place) (ts : List Token) → spec_of w ≡ Some word → opened_word w p ts ≡ None
word_not_opened Words.Struct word p ts e = none_some e
word_not_opened Words.Enum word p ts e = none_some e
word_not_opened _ word p ts e = refl

tag_not_opened : (kind : TagKind) (n : Name) (p q : Place) (ts rest : List Token) → Begins (Shapes.Name n) q ts rest → after Marks.OpenBrace rest ≡ None → opened_by kind p (tag_at ts) ≡ None
tag_not_opened kind n p q ts rest s ends =
    ap (λ o. opened_by kind p (tag_by o ts)) (name_at_spelled n q ts rest s)
    ∙ ap (λ o. and_after o (λ l. Some (record { kind = kind; tag = Some (record { name = n; place = q }); place = p }, l))) ends

pub not_opened : (types : List Name) (seen : Bool) (word : SpecWord) (p : Place) (ts rest : List Token) → SpellsSpec types seen word p ts rest → after Marks.OpenBrace rest ≡ None → opened ts ≡ None
unfolding opened
not_opened types seen (Specs.Tagged Tags.Struct n q) p ts rest s ends = ap opened s.1 ∙ tag_not_opened Tags.Struct n p q s.0 rest s.2 ends
not_opened types seen (Specs.Tagged Tags.Enum n q) p ts rest s ends = ap opened s.1 ∙ tag_not_opened Tags.Enum n p q s.0 rest s.2 ends
not_opened types seen (Specs.Alias n) p ts rest s ends = ap opened s.2
not_opened types seen (Specs.Storage k) p ts rest s ends = ap opened s.2 ∙ word_not_opened s.0 (Specs.Storage k) p rest s.1
not_opened types seen (Specs.Qualifier k) p ts rest s ends = ap opened s.2 ∙ word_not_opened s.0 (Specs.Qualifier k) p rest s.1
not_opened types seen (Specs.Basic k) p ts rest s ends = ap opened s.2 ∙ word_not_opened s.0 (Specs.Basic k) p rest s.1

-- ## First tokens

spec_begins : (types : List Name) (seen : Bool) (word : SpecWord) (p : Place) (ts rest : List Token) → SpellsSpec types seen word p ts rest → begins_type types ts ≡ true
spec_begins types seen (Specs.Tagged Tags.Struct n q) p ts rest s = ap (begins_type types) s.1
spec_begins types seen (Specs.Tagged Tags.Enum n q) p ts rest s = ap (begins_type types) s.1
spec_begins types seen (Specs.Alias n) p ts rest s = ap (begins_type types) s.2 ∙ s.1
spec_begins types seen (Specs.Storage k) p ts rest s = ap (begins_type types) s.2 ∙ ap (λ o. begins_word o s.0) s.1
spec_begins types seen (Specs.Qualifier k) p ts rest s = ap (begins_type types) s.2 ∙ ap (λ o. begins_word o s.0) s.1
spec_begins types seen (Specs.Basic k) p ts rest s = ap (begins_type types) s.2 ∙ ap (λ o. begins_word o s.0) s.1

pub specifier_begins : (types : List Name) (seen : Bool) (s : SpecifierTree) (ts rest : List Token) → SpellsSpecifier types seen s ts rest → begins_type types ts ≡ true
specifier_begins types seen (a_plain x) ts rest s = spec_begins types seen x.word x.place ts rest s
specifier_begins types seen (a_struct tag _ p) ts rest s = ap (begins_type types) s.3
specifier_begins types seen (an_enum tag enumerators p) ts rest s = ap (begins_type types) s.3

-- what begins a type is no mark
pub type_no_mark : (types : List Name) (mark : Mark) (ts : List Token) → begins_type types ts ≡ true → after mark ts ≡ None
type_no_mark types mark ts e = go (after mark ts) refl
  where
    go : (o : Option (List Token)) → after mark ts ≡ o → o ≡ None
    go None h = refl
    go (Some rest) h = let s = after_finds mark ts rest h in false_true (sym (ap (begins_type types) s.1) ∙ e)

pub specifiers_no_brace : (types : List Name) (seen : Bool) (s : SpecifierTrees) (ts rest : List Token) → SpellsSpecifiers types seen s ts rest → after Marks.OpenBrace rest ≡ None → after Marks.OpenBrace ts ≡ None
specifiers_no_brace types seen no_specifiers ts rest s ends = ap (after Marks.OpenBrace) s ∙ ends
specifiers_no_brace types seen (and_specifier x more) ts rest s ends = type_no_mark types Marks.OpenBrace ts (specifier_begins types seen x ts s.0 s.1)

-- ## Lengths

tag_shorter : (tag : Option Tag) (ts rest : List Token) → SpellsTag tag ts rest → length rest ≤ length ts
tag_shorter None ts rest s = let n : length ts ≡ length rest = ap length s in omega arith
tag_shorter (Some tag) ts rest s = let a = begins_shorter (Shapes.Name tag.name) tag.place ts rest s in omega arith

more_members_shorter : (types : List Name) (declarators : List DeclaratorTree) (ts rest : List Token) → SpellsMoreMembers types declarators ts rest → length rest ≤ length ts
more_members_shorter types [] ts rest s = let n : length ts ≡ length rest = ap length s in omega arith
more_members_shorter types (d ∷ declarators) ts rest s =
    let a = by_shorter Signs.Comma ts s.0 s.2 in let b = declarator_shorter true types d s.0 s.1 s.3 in
    let c = more_members_shorter types declarators s.1 rest s.4 in omega arith

pub member_declarators_shorter : (types : List Name) (declarators : List DeclaratorTree) (ts rest : List Token) → SpellsMemberDeclarators types declarators ts rest → length rest < length ts
member_declarators_shorter types [] ts rest s = absurd s
member_declarators_shorter types (d ∷ declarators) ts rest s =
    let a = declarator_shorter true types d ts s.0 s.1 in let b = more_members_shorter types declarators s.0 rest s.2 in omega arith

mutual
  pub specifier_shorter : (types : List Name) (seen : Bool) (s : SpecifierTree) (ts rest : List Token) → SpellsSpecifier types seen s ts rest → length rest < length ts
  specifier_shorter types seen (a_plain x) ts rest s = spec_shorter types seen x.word x.place ts rest s
  specifier_shorter types seen (a_struct tag members p) ts rest s =
      let a = begins_shorter (Shapes.Word Words.Struct) p ts s.0 s.3 in let b = tag_shorter tag s.0 s.1 s.4 in
      let c = by_shorter Signs.OpenBrace s.1 s.2 s.5 in let d = members_shorter types members s.2 rest s.7 in omega arith
  specifier_shorter types seen (an_enum tag enumerators p) ts rest s =
      let a = begins_shorter (Shapes.Word Words.Enum) p ts s.0 s.3 in let b = tag_shorter tag s.0 s.1 s.4 in
      let c = by_shorter Signs.OpenBrace s.1 s.2 s.5 in let d = enumerators_shorter types enumerators s.2 rest s.6 in omega arith

  pub specifiers_no_longer : (types : List Name) (seen : Bool) (s : SpecifierTrees) (ts rest : List Token) → SpellsSpecifiers types seen s ts rest → length rest ≤ length ts
  specifiers_no_longer types seen no_specifiers ts rest s = let n : length ts ≡ length rest = ap length s in omega arith
  specifiers_no_longer types seen (and_specifier x more) ts rest s =
      let a = specifier_shorter types seen x ts s.0 s.1 in
      let b = specifiers_no_longer types (seen || is_type_spec (counts_as x).word) more s.0 rest s.2 in omega arith

  members_shorter : (types : List Name) (members : MemberTrees) (ts rest : List Token) → SpellsMembers types members ts rest → length rest < length ts
  members_shorter types no_members ts rest s = by_shorter Signs.CloseBrace ts rest s
  members_shorter types (and_members specifiers declarators members) ts rest s =
      let a = specifiers_no_longer types false specifiers ts s.0 s.3 in let b = member_declarators_shorter types declarators s.0 s.1 s.5 in
      let c = by_shorter Signs.Semicolon s.1 s.2 s.6 in let d = members_shorter types members s.2 rest s.7 in omega arith
