-- The reading of type names finds what is spelled, and what it finds is spelled.
use Rattle.std.proofs.Common.{◌≡◌, ℕ, zero, suc, ◌<◌, ◌≤◌, Bool, true, false, cond, ◌||◌, List, [], ◌∷◌, ◌++◌, length, Option, Some, None, refl, sym, ap, ◌∙◌, subst, arith, append_assoc}
use Rattle.std.specs.Prelude.{not, ◌&&◌, IsTrue}
use Rattle.std.proofs.lemmas.List.{append-nil}
use Rattle.tm_terms.specs.declared.places.Place.{Place}
use Rattle.tm_terms.specs.declared.tokens.Name.{Name}
use Rattle.tm_terms.specs.declared.tokens.Word.{Word}
use Rattle.tm_terms.specs.declared.tokens.Word.TheVariants as Words
use Rattle.tm_terms.specs.declared.tokens.Sign.{Sign}
use Rattle.tm_terms.specs.declared.tokens.Sign.TheVariants as Signs
use Rattle.tm_terms.specs.declared.tokens.Shape.{Shape}
use Rattle.tm_terms.specs.declared.tokens.Shape.TheVariants as Shapes
use Rattle.tm_terms.specs.declared.tokens.Token.{Token}
use Rattle.tm_terms.specs.declared.types_named.Spec.{Spec}
use Rattle.tm_terms.specs.declared.types_named.SpecWord.{SpecWord}
use Rattle.tm_terms.specs.declared.types_named.SpecWord.TheVariants as Specs
use Rattle.tm_terms.specs.declared.types_named.TagKind.{TagKind}
use Rattle.tm_terms.specs.declared.types_named.TagKind.TheVariants as Tags
use Rattle.tm_terms.specs.declared.types_named.PointerWord.{PointerWord}
use Rattle.tm_terms.specs.declared.types_named.PointerWord.TheVariants as Pointers
use Rattle.tm_terms.specs.Names.{is_typedef}
use Rattle.tm_terms.specs.ExprTrees.{TypeTree}
use Rattle.tm_terms.specs.ExprSpelling.{Begins, BySign, spec_of, tag_word, is_type_spec, SpellsSpec, SpellsSpecs, pointer_shape, SpellsPointers, BeginsWithStar, SpellsTypeName, is_type_name_list}
use Rattle.c_expr_parser.specs.reading.Parts.{name_at, tagged_by, word_spec, spec_by, spec_at, specs_by, specs_from, pointer_by, pointer_at, pointers_by, pointers_from, without_first, type_name_of, type_name, begins_word, begins_type}
use Rattle.c_expr_parser.proofs.Tokens.{none_some, from_some, shaped, name_at_finds, name_at_spelled, cond_some, and_true, and_both, not_true, begins_shorter}
use Rattle.c_expr_parser.proofs.TypeSteps.{specs_stop, specs_next, pointers_stop, pointers_next}

-- a word never stands for a tag or a name
not_tagged : (w : Word) (kind : TagKind) (n : Name) (p : Place) {P : Type 0} → spec_of w ≡ Some (Specs.Tagged kind n p) → P
not_tagged Words.Static kind n p e = cc
not_tagged _ kind n p e = cc

not_alias : (w : Word) (n : Name) {P : Type 0} → spec_of w ≡ Some (Specs.Alias n) → P
not_alias Words.Static n e = cc
not_alias _ n e = cc

-- a word that stands for a specifier spells it
pub word_spells : (types : List Name) (seen : Bool) (w : Word) (word : SpecWord) (p : Place) (ts rest : List Token) → spec_of w ≡ Some word → Begins (Shapes.Word w) p ts rest → SpellsSpec types seen word p ts rest
word_spells types seen w (Specs.Storage s) p ts rest e b = (w, e, b)
word_spells types seen w (Specs.Qualifier s) p ts rest e b = (w, e, b)
word_spells types seen w (Specs.Basic s) p ts rest e b = (w, e, b)
word_spells types seen w (Specs.Tagged kind n q) p ts rest e b = not_tagged w kind n q e
word_spells types seen w (Specs.Alias n) p ts rest e b = not_alias w n e

-- what a specifier gives, and what it spells
abbrev pub Spelled : List Name → Bool → List Token → Spec × List Token → Type 0
Spelled types seen ts x = SpellsSpec types seen x.0.word x.0.place ts x.1

tagged_finds : (types : List Name) (seen : Bool) (kind : TagKind) (p : Place) (ts : List Token) (x : Spec × List Token) → tagged_by kind p (name_at ts) ≡ Some x → Spelled types seen ((record { shape = Shapes.Word (tag_word kind); place = p }) ∷ ts) x
tagged_finds types seen kind p ts x e = go (name_at ts) refl e
  where
    go : (o : Option ((Name × Place) × List Token)) → name_at ts ≡ o → tagged_by kind p o ≡ Some x → Spelled types seen ((record { shape = Shapes.Word (tag_word kind); place = p }) ∷ ts) x
    go None h e = none_some e
    go (Some found) h e = subst (Spelled types seen ((record { shape = Shapes.Word (tag_word kind); place = p }) ∷ ts)) (from_some e) (ts, refl, name_at_finds ts found h)

word_finds : (types : List Name) (seen : Bool) (o : Option SpecWord) (w : Word) (p : Place) (ts : List Token) (x : Spec × List Token) → spec_of w ≡ o → word_spec o w p ts ≡ Some x → Spelled types seen ((record { shape = Shapes.Word w; place = p }) ∷ ts) x
word_finds types seen (Some word) w p ts x h e =
    subst (Spelled types seen ((record { shape = Shapes.Word w; place = p }) ∷ ts)) (from_some e) (word_spells types seen w word p _ ts h refl)
word_finds types seen None Words.Struct p ts x h e = tagged_finds types seen Tags.Struct p ts x e
word_finds types seen None Words.Enum p ts x h e = tagged_finds types seen Tags.Enum p ts x e
word_finds types seen None _ p ts x h e = none_some e

spec_by_finds : (types : List Name) (seen : Bool) (shape : Shape) (p : Place) (ts : List Token) (x : Spec × List Token) → spec_by types seen shape p ts ≡ Some x → Spelled types seen ((record { shape = shape; place = p }) ∷ ts) x
spec_by_finds types seen (Shapes.Name n) p ts x e =
    let a = cond_some (is_typedef types n && not seen) (Some (record { word = Specs.Alias n; place = p }, ts)) x e in
    let b = and_true (is_typedef types n) (not seen) a.0 in
    subst (Spelled types seen ((record { shape = Shapes.Name n; place = p }) ∷ ts)) (from_some a.1) (not_true seen b.1, b.0, refl)
spec_by_finds types seen (Shapes.Word w) p ts x e = word_finds types seen (spec_of w) w p ts x refl e
spec_by_finds types seen _ p ts x e = none_some e

pub spec_at_finds : (types : List Name) (seen : Bool) (ts : List Token) (x : Spec × List Token) → spec_at types seen ts ≡ Some x → Spelled types seen ts x
spec_at_finds types seen [] x e = none_some e
spec_at_finds types seen (t ∷ ts) x e = spec_by_finds types seen t.shape t.place ts x e

-- what is spelled is found
pub spec_at_spelled : (types : List Name) (seen : Bool) (word : SpecWord) (p : Place) (ts rest : List Token) → SpellsSpec types seen word p ts rest → spec_at types seen ts ≡ Some (record { word = word; place = p }, rest)
spec_at_spelled types seen (Specs.Tagged Tags.Struct n q) p ts rest s = ap (spec_at types seen) s.1 ∙ ap (tagged_by Tags.Struct p) (name_at_spelled n q s.0 rest s.2)
spec_at_spelled types seen (Specs.Tagged Tags.Enum n q) p ts rest s = ap (spec_at types seen) s.1 ∙ ap (tagged_by Tags.Enum p) (name_at_spelled n q s.0 rest s.2)
spec_at_spelled types seen (Specs.Alias n) p ts rest s =
    ap (spec_at types seen) s.2 ∙ ap (λ b. cond b (Some (record { word = Specs.Alias n; place = p }, rest)) None) (and_both (is_typedef types n) (not seen) s.1 (ap not s.0))
spec_at_spelled types seen (Specs.Storage k) p ts rest s = ap (spec_at types seen) s.2 ∙ ap (λ o. word_spec o s.0 p rest) s.1
spec_at_spelled types seen (Specs.Qualifier k) p ts rest s = ap (spec_at types seen) s.2 ∙ ap (λ o. word_spec o s.0 p rest) s.1
spec_at_spelled types seen (Specs.Basic k) p ts rest s = ap (spec_at types seen) s.2 ∙ ap (λ o. word_spec o s.0 p rest) s.1

pub spec_shorter : (types : List Name) (seen : Bool) (word : SpecWord) (p : Place) (ts rest : List Token) → SpellsSpec types seen word p ts rest → length rest < length ts
spec_shorter types seen (Specs.Tagged kind n q) p ts rest s =
    let a = begins_shorter (Shapes.Word (tag_word kind)) p ts s.0 s.1 in let b = begins_shorter (Shapes.Name n) q s.0 rest s.2 in omega arith
spec_shorter types seen (Specs.Alias n) p ts rest s = begins_shorter (Shapes.Name n) p ts rest s.2
spec_shorter types seen (Specs.Storage k) p ts rest s = begins_shorter (Shapes.Word s.0) p ts rest s.2
spec_shorter types seen (Specs.Qualifier k) p ts rest s = begins_shorter (Shapes.Word s.0) p ts rest s.2
spec_shorter types seen (Specs.Basic k) p ts rest s = begins_shorter (Shapes.Word s.0) p ts rest s.2

-- the specifiers that were read are those before and some that the tokens spell
abbrev pub SpecsRead : List Name → Bool → List Spec → List Token → List Spec × List Token → Type 0
SpecsRead types seen read ts x = (more : List Spec) × (x.0 ≡ read ++ more) × SpellsSpecs types seen more ts x.1

pub specs_find : (types : List Name) (n : ℕ) (seen : Bool) (read : List Spec) (ts : List Token) → SpecsRead types seen read ts (specs_from types n seen read ts)
unfolding specs_from
specs_find types zero seen read ts = ([], sym (append-nil read), refl)
specs_find types (suc n) seen read ts = go (spec_at types seen ts) refl (λ s rest. specs_find types n (seen || is_type_spec s.word) (read ++ s ∷ []) rest)
  where
    go : (o : Option (Spec × List Token)) → spec_at types seen ts ≡ o → ((s : Spec) (rest : List Token) → SpecsRead types (seen || is_type_spec s.word) (read ++ s ∷ []) rest (specs_from types n (seen || is_type_spec s.word) (read ++ s ∷ []) rest)) → SpecsRead types seen read ts (specs_by o (read, ts) (λ s rest. specs_from types n (seen || is_type_spec s.word) (read ++ s ∷ []) rest))
    go None h ih = ([], sym (append-nil read), refl)
    go (Some x) h ih =
        let r = ih x.0 x.1 in
        (x.0 ∷ r.0, r.1 ∙ append_assoc read (x.0 ∷ []) r.0, (x.1, spec_at_finds types seen ts x h, r.2))

-- tokens that begin no specifier, whatever stands before
abbrev pub EndsSpecs : List Name → List Token → Type 0
EndsSpecs types ts = (seen : Bool) → spec_at types seen ts ≡ None

specs_pair : (a b : List Spec) (ts rest : List Token) → a ≡ b → ts ≡ rest → ◌≡◌ {A = List Spec × List Token} (a, ts) (b, rest)
specs_pair a b ts rest e f = λ i. (e i, f i)

specs_spelled : (types : List Name) (specs : List Spec) (n : ℕ) (seen : Bool) (read : List Spec) (ts rest : List Token) → SpellsSpecs types seen specs ts rest → EndsSpecs types rest → length ts ≤ n → specs_from types n seen read ts ≡ (read ++ specs, rest)
specs_spelled types [] n seen read ts rest s ends le =
    specs_stop types n seen read ts (ap (spec_at types seen) s ∙ ends seen) ∙ specs_pair _ _ _ _ (sym (append-nil read)) s
specs_spelled types (x ∷ specs) zero seen read ts rest s ends le =
    let short = spec_shorter types seen x.word x.place ts s.0 s.1 in absurd (omega arith)
specs_spelled types (x ∷ specs) (suc n) seen read ts rest s ends le =
    let short = spec_shorter types seen x.word x.place ts s.0 s.1 in
    specs_next types (suc n) n seen read ts x s.0 refl (spec_at_spelled types seen x.word x.place ts s.0 s.1)
    ∙ specs_spelled types specs n (seen || is_type_spec x.word) (read ++ x ∷ []) s.0 rest s.2 ends (omega arith)
    ∙ specs_pair _ _ _ _ (append_assoc read (x ∷ []) specs) refl

-- the same of pointer parts
pointer_by_finds : (started : Bool) (shape : Shape) (w : PointerWord) → pointer_by started shape ≡ Some w → (shape ≡ pointer_shape w) × ((started ≡ false) → w ≡ Pointers.Star)
pointer_by_finds started (Shapes.Sign Signs.Star) w e = (ap pointer_shape (from_some e), λ f. sym (from_some e))
pointer_by_finds true (Shapes.Word Words.Const) w e = (ap pointer_shape (from_some e), λ f. cc)
pointer_by_finds true (Shapes.Word Words.Volatile) w e = (ap pointer_shape (from_some e), λ f. cc)
pointer_by_finds true (Shapes.Word Words.Restrict) w e = (ap pointer_shape (from_some e), λ f. cc)
pointer_by_finds _ _ w e = none_some e

pointer_at_finds : (started : Bool) (ts : List Token) (w : PointerWord) → pointer_at started ts ≡ Some w → ((place : Place) × Begins (pointer_shape w) place ts (without_first ts)) × ((started ≡ false) → w ≡ Pointers.Star)
pointer_at_finds started [] w e = none_some e
pointer_at_finds started (t ∷ ts) w e =
    let a = pointer_by_finds started t.shape w e in ((t.place, shaped t.place ts a.0), a.1)

pointer_at_spelled : (w : PointerWord) (p : Place) (ts rest : List Token) → Begins (pointer_shape w) p ts rest → (pointer_at true ts ≡ Some w) × (without_first ts ≡ rest)
pointer_at_spelled Pointers.Star p ts rest e = (ap (pointer_at true) e, ap without_first e)
pointer_at_spelled Pointers.Const p ts rest e = (ap (pointer_at true) e, ap without_first e)
pointer_at_spelled Pointers.Volatile p ts rest e = (ap (pointer_at true) e, ap without_first e)
pointer_at_spelled Pointers.Restrict p ts rest e = (ap (pointer_at true) e, ap without_first e)

starts_with : (w : PointerWord) (words : List PointerWord) → w ≡ Pointers.Star → BeginsWithStar (w ∷ words)
starts_with w words e = subst (λ v. BeginsWithStar (v ∷ words)) (sym e) tt

abbrev pub PointersRead : Bool → List PointerWord → List Token → List PointerWord × List Token → Type 0
PointersRead started read ts x = (more : List PointerWord) × (x.0 ≡ read ++ more) × SpellsPointers more ts x.1 × ((started ≡ false) → BeginsWithStar more)

pub pointers_find : (n : ℕ) (started : Bool) (read : List PointerWord) (ts : List Token) → PointersRead started read ts (pointers_from n started read ts)
unfolding pointers_from
pointers_find zero started read ts = ([], sym (append-nil read), refl, λ f. tt)
pointers_find (suc n) started read ts = go (pointer_at started ts) refl (λ w. pointers_find n true (read ++ w ∷ []) (without_first ts))
  where
    go : (o : Option PointerWord) → pointer_at started ts ≡ o → ((w : PointerWord) → PointersRead true (read ++ w ∷ []) (without_first ts) (pointers_from n true (read ++ w ∷ []) (without_first ts))) → PointersRead started read ts (pointers_by o (read, ts) (λ w. pointers_from n true (read ++ w ∷ []) (without_first ts)))
    go None h ih = ([], sym (append-nil read), refl, λ f. tt)
    go (Some w) h ih =
        let r = ih w in let a = pointer_at_finds started ts w h in
        (w ∷ r.0, r.1 ∙ append_assoc read (w ∷ []) r.0, (a.0.0, without_first ts, a.0.1, r.2), λ f. starts_with w r.0 (a.1 f))

pointers_pair : (a b : List PointerWord) (ts rest : List Token) → a ≡ b → ts ≡ rest → ◌≡◌ {A = List PointerWord × List Token} (a, ts) (b, rest)
pointers_pair a b ts rest e f = λ i. (e i, f i)

further_spelled : (words : List PointerWord) (n : ℕ) (read : List PointerWord) (ts rest : List Token) → SpellsPointers words ts rest → pointer_at true rest ≡ None → length ts ≤ n → pointers_from n true read ts ≡ (read ++ words, rest)
further_spelled [] n read ts rest s ends le =
    pointers_stop n true read ts (ap (pointer_at true) s ∙ ends) ∙ pointers_pair _ _ _ _ (sym (append-nil read)) s
further_spelled (w ∷ words) zero read ts rest s ends le =
    let short = begins_shorter (pointer_shape w) s.0 ts s.1 s.2 in absurd (omega arith)
further_spelled (w ∷ words) (suc n) read ts rest s ends le =
    let short = begins_shorter (pointer_shape w) s.0 ts s.1 s.2 in
    let a = pointer_at_spelled w s.0 ts s.1 s.2 in
    pointers_next (suc n) n true read ts w refl a.0
    ∙ ap (pointers_from n true (read ++ w ∷ [])) a.1
    ∙ further_spelled words n (read ++ w ∷ []) s.1 rest s.3 ends (omega arith)
    ∙ pointers_pair _ _ _ _ (append_assoc read (w ∷ []) words) refl

none_before : (ts : List Token) → pointer_at true ts ≡ None → pointer_at false ts ≡ None
none_before [] e = refl
none_before (t ∷ ts) e = go t.shape e
  where
    go : (shape : Shape) → pointer_by true shape ≡ None → pointer_by false shape ≡ None
    go (Shapes.Sign Signs.Star) e = e
    go (Shapes.Sign _) e = refl
    go (Shapes.Word _) e = refl
    go (Shapes.Name _) e = refl
    go (Shapes.Integer _) e = refl
    go (Shapes.Character _) e = refl

pub pointers_spelled : (words : List PointerWord) (ts rest : List Token) → SpellsPointers words ts rest → BeginsWithStar words → pointer_at true rest ≡ None → pointers_from (length ts) false [] ts ≡ (words, rest)
pointers_spelled [] ts rest s star ends =
    pointers_stop (length ts) false [] ts (ap (pointer_at false) s ∙ none_before rest ends) ∙ pointers_pair _ _ _ _ refl s
pointers_spelled (Pointers.Star ∷ words) ts rest s star ends =
    let n : length ts ≡ suc (length s.1) = ap length s.2 in
    pointers_next (length ts) (length s.1) false [] ts Pointers.Star n (ap (pointer_at false) s.2)
    ∙ ap (pointers_from (length s.1) true (Pointers.Star ∷ [])) (ap without_first s.2)
    ∙ further_spelled words (length s.1) (Pointers.Star ∷ []) s.1 rest s.3 ends (omega arith)
pointers_spelled (Pointers.Const ∷ words) ts rest s star ends = absurd star
pointers_spelled (Pointers.Volatile ∷ words) ts rest s star ends = absurd star
pointers_spelled (Pointers.Restrict ∷ words) ts rest s star ends = absurd star

-- a type name that is read is spelled
pub type_name_finds : (types : List Name) (ts : List Token) (x : TypeTree × List Token) → type_name types ts ≡ Some x → SpellsTypeName types x.0 ts x.1
unfolding type_name
type_name_finds types ts x e =
    let specs = specs_from types (length ts) false [] ts in
    let words = pointers_from (length specs.1) false [] specs.1 in
    let a = cond_some (is_type_name_list specs.0) (Some (record { specs = specs.0; pointers = words.0 }, words.1)) x e in
    let s = specs_find types (length ts) false [] ts in
    let p = pointers_find (length specs.1) false [] specs.1 in
    subst (λ (y : TypeTree × List Token). SpellsTypeName types y.0 ts y.1) (from_some a.1)
    (specs.1, subst (λ l. SpellsSpecs types false l ts specs.1) (sym s.1) s.2, a.0, subst BeginsWithStar (sym p.1) (p.3 refl), subst (λ l. SpellsPointers l specs.1 words.1) (sym p.1) p.2)

-- signs begin no specifier, and a mark is no token of a pointer part
sign_ends : (types : List Name) (sign : Sign) (p : Place) (ts : List Token) → EndsSpecs types ((record { shape = Shapes.Sign sign; place = p }) ∷ ts)
sign_ends types sign p ts seen = refl

abbrev BeginsSign : List Token → Type 0
BeginsSign ts = (sign : Sign) × BySign sign ts (without_first ts)

after_specs : (words : List PointerWord) (ts rest : List Token) → SpellsPointers words ts rest → BeginsWithStar words → (types : List Name) → EndsSpecs types rest → EndsSpecs types ts
after_specs [] ts rest s star types ends seen = ap (spec_at types seen) s ∙ ends seen
after_specs (Pointers.Star ∷ words) ts rest s star types ends seen = ap (spec_at types seen) s.2
after_specs (Pointers.Const ∷ words) ts rest s star types ends seen = absurd star
after_specs (Pointers.Volatile ∷ words) ts rest s star types ends seen = absurd star
after_specs (Pointers.Restrict ∷ words) ts rest s star types ends seen = absurd star

-- a type name that is spelled before a `)` is read
pub type_name_spelled : (types : List Name) (n : TypeTree) (ts rest next : List Token) → SpellsTypeName types n ts rest → BySign Signs.CloseParenthesis rest next → type_name types ts ≡ Some (n, rest)
unfolding type_name
type_name_spelled types n ts rest next s close =
    let ends : EndsSpecs types rest = λ seen. ap (spec_at types seen) close.1 in
    let a = specs_spelled types n.specs (length ts) false [] ts s.0 s.1 (after_specs n.pointers s.0 rest s.4 s.3 types ends) (omega arith) in
    let b = pointers_spelled n.pointers s.0 rest s.4 s.3 (ap (pointer_at true) close.1) in
    ap (λ (x : List Spec × List Token). type_name_of x.0 (pointers_from (length x.1) false [] x.1)) a
    ∙ ap (type_name_of n.specs) b
    ∙ ap (λ c. cond c (Some (n, rest)) None) s.2

-- what begins a type name
spec_begins : (types : List Name) (word : SpecWord) (p : Place) (ts rest : List Token) → SpellsSpec types false word p ts rest → begins_type types ts ≡ true
spec_begins types (Specs.Tagged Tags.Struct n q) p ts rest s = ap (begins_type types) s.1
spec_begins types (Specs.Tagged Tags.Enum n q) p ts rest s = ap (begins_type types) s.1
spec_begins types (Specs.Alias n) p ts rest s = ap (begins_type types) s.2 ∙ s.1
spec_begins types (Specs.Storage k) p ts rest s = ap (begins_type types) s.2 ∙ ap (λ o. begins_word o s.0) s.1
spec_begins types (Specs.Qualifier k) p ts rest s = ap (begins_type types) s.2 ∙ ap (λ o. begins_word o s.0) s.1
spec_begins types (Specs.Basic k) p ts rest s = ap (begins_type types) s.2 ∙ ap (λ o. begins_word o s.0) s.1

pub type_name_begins : (types : List Name) (n : TypeTree) (ts rest : List Token) → SpellsTypeName types n ts rest → begins_type types ts ≡ true
type_name_begins types n ts rest s = go n.specs s.1 s.2
  where
    go : (specs : List Spec) → SpellsSpecs types false specs ts s.0 → IsTrue (is_type_name_list specs) → begins_type types ts ≡ true
    go [] a b = cc
    go (x ∷ specs) a b = spec_begins types x.word x.place ts a.0 a.1

specs_shorter : (types : List Name) (seen : Bool) (specs : List Spec) (ts rest : List Token) → SpellsSpecs types seen specs ts rest → length rest ≤ length ts
specs_shorter types seen [] ts rest s = let n : length ts ≡ length rest = ap length s in omega arith
specs_shorter types seen (x ∷ specs) ts rest s =
    let a = spec_shorter types seen x.word x.place ts s.0 s.1 in
    let b = specs_shorter types (seen || is_type_spec x.word) specs s.0 rest s.2 in omega arith

pub pointers_shorter : (words : List PointerWord) (ts rest : List Token) → SpellsPointers words ts rest → length rest ≤ length ts
pointers_shorter [] ts rest s = let n : length ts ≡ length rest = ap length s in omega arith
pointers_shorter (w ∷ words) ts rest s =
    let a = begins_shorter (pointer_shape w) s.0 ts s.1 s.2 in let b = pointers_shorter words s.1 rest s.3 in omega arith

pub type_name_shorter : (types : List Name) (n : TypeTree) (ts rest : List Token) → SpellsTypeName types n ts rest → length rest ≤ length ts
type_name_shorter types n ts rest s =
    let a = specs_shorter types false n.specs ts s.0 s.1 in let b = pointers_shorter n.pointers s.0 rest s.4 in omega arith
