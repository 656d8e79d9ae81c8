-- A list of specifiers that names a type has a specifier that does.
use Rattle.std.proofs.Common.{◌≡◌, ℕ, ◌+◌, Bool, true, false, cond, ◌||◌, List, [], ◌∷◌, refl, sym, ap, ◌∙◌}
use Rattle.std.specs.Prelude.{◌&&◌, ◌==◌}
use Rattle.std.proofs.lemmas.List.Sums.{sum_by-cons}
use Rattle.tm_terms.specs.declared.types_named.Spec.{Spec}
use Rattle.tm_terms.specs.declared.types_named.SpecWord.{SpecWord}
use Rattle.tm_terms.specs.declared.types_named.SpecWord.TheVariants as Specs
use Rattle.tm_terms.specs.declared.types_named.Basic.{Basic}
use Rattle.tm_terms.specs.declared.types_named.Basic.TheVariants as Basics
use Rattle.tm_terms.specs.ExprSpelling.{is_type_spec, is_basic, is_lone, is_declared_type, many}
use Rattle.tm_terms.specs.ExprSpelling.{is_integer_list, is_type_list}
use Rattle.c_expr_parser.proofs.Tokens.{false_true}

-- a type stands before them or among them
abbrev pub names_type : Bool → List Spec → Bool
names_type seen [] = seen
names_type seen (s ∷ specs) = names_type (seen || is_type_spec s.word) specs

still_named : (specs : List Spec) → names_type true specs ≡ true
still_named [] = refl
still_named (s ∷ specs) = still_named specs

unnamed_parts : (s : Spec) (specs : List Spec) → names_type false (s ∷ specs) ≡ false → (is_type_spec s.word ≡ false) × (names_type false specs ≡ false)
unnamed_parts s specs e = go (is_type_spec s.word) e
  where
    go : (b : Bool) → names_type b specs ≡ false → (b ≡ false) × (names_type false specs ≡ false)
    go true e = false_true (sym e ∙ still_named specs)
    go false e = (refl, e)

-- a test that only types pass counts none where there is none
many_none : (test : SpecWord → Bool) → ((w : SpecWord) → is_type_spec w ≡ false → test w ≡ false) → (specs : List Spec) → names_type false specs ≡ false → many test specs ≡ 0
many_none test only [] e = refl
many_none test only (s ∷ specs) e =
    let a = unnamed_parts s specs e in
    sum_by-cons (λ (x : Spec). cond (test x.word) 1 0) s specs
    ∙ ap (λ b. cond b 1 0 + many test specs) (only s.word a.0)
    ∙ ap (λ n. 0 + n) (many_none test only specs a.1)

not_declared : (w : SpecWord) → is_type_spec w ≡ false → is_declared_type w ≡ false
not_declared (Specs.Storage s) e = refl
not_declared (Specs.Qualifier q) e = refl
not_declared (Specs.Basic b) e = refl
not_declared (Specs.Tagged kind n p) e = e
not_declared (Specs.Alias n) e = e

not_basic : (b : Basic) (w : SpecWord) → is_type_spec w ≡ false → is_basic b w ≡ false
not_basic b (Specs.Basic c) e = false_true (sym e)
not_basic Basics.Void _ e = refl
not_basic Basics.Bool _ e = refl
not_basic Basics.Char _ e = refl
not_basic Basics.Short _ e = refl
not_basic Basics.Int _ e = refl
not_basic Basics.Long _ e = refl
not_basic Basics.Signed _ e = refl
not_basic Basics.Unsigned _ e = refl

not_lone : (w : SpecWord) → is_type_spec w ≡ false → is_lone w ≡ false
not_lone (Specs.Basic c) e = false_true (sym e)
not_lone _ e = refl

-- the test of type lists, by its counts
abbrev type_counts : ℕ → ℕ → ℕ → ℕ → ℕ → ℕ → ℕ → ℕ → Bool
type_counts declared lone chars shorts ints longs signeds unsigneds =
    ((declared + lone == 1) && (chars + shorts + ints + longs + signeds + unsigneds == 0))
    || ((declared + lone == 0) && is_integer_list chars shorts ints longs (signeds + unsigneds))

unnamed_list : (specs : List Spec) → names_type false specs ≡ false → is_type_list specs ≡ false
unnamed_list specs e =
    let none : (b : Basic) → many (is_basic b) specs ≡ 0 = λ b. many_none (is_basic b) (not_basic b) specs e in
    let declared : many is_declared_type specs ≡ 0 = many_none is_declared_type not_declared specs e in
    let lone : many is_lone specs ≡ 0 = many_none is_lone not_lone specs e in
    λ i. type_counts (declared i) (lone i) (none Basics.Char i) (none Basics.Short i) (none Basics.Int i) (none Basics.Long i) (none Basics.Signed i) (none Basics.Unsigned i)

pub type_list_names : (specs : List Spec) → is_type_list specs ≡ true → names_type false specs ≡ true
type_list_names specs e = go (names_type false specs) refl
  where
    go : (b : Bool) → names_type false specs ≡ b → b ≡ true
    go true h = refl
    go false h = false_true (sym (unnamed_list specs h) ∙ e)
