-- Values are read from their words.
use Rattle.std.proofs.Common.{◌≡◌, ◌≢◌, refl, sym, ap, subst, ◌∙◌, ℕ, zero, suc, ◌+◌, ◌<◌, ◌≤◌, ℤ, Bool, true, false}
use Rattle.std.proofs.Common.{List, []}
use Rattle.std.proofs.Common.{◌∷◌, ◌++◌, map, length, get_or, Option, Some, None, inl, inr, arith}
use Rattle.std.specs.Prelude.{codes, T}
use Rattle.std.specs.List.{flat_map}
use Rattle.std.specs.FinMap.{get, entries, entries_sorted, is_sorted, len-entries, len-empty}
use Rattle.std.specs.Ordering.{nat_cmp}
use Rattle.strided_dom.specs.Progression.{Progression, empty, single, row, Has}
use Rattle.tm_lattice.specs.Tables.{IsEntry}
use Rattle.tm_lattice.specs.laws.Keys.{AllAbove, AllAbove-rest, is_sorted-rest}
use Rattle.tm_typed.specs.declared.types.Scalar.{Scalar}
use Rattle.tm_typed.specs.declared.types.Scalar.TheVariants as Scalars
use Rattle.tm_laid.specs.declared.objects.LaidObject.{LaidObject}
use Rattle.tm_laid.specs.Layouts.{LaidTree, object_at}
use Rattle.pointer_dom.specs.OffsetSets.{OffsetSet, IsOffsetSet, HasNoOffset}
use Rattle.pointer_dom.specs.PointerSets.{Pointers, IsPointers, no_pointer}
use Rattle.pointer_dom.specs.Values.{Values, no_value}
use Rattle.interfere_set.specs.laws.Joins.{IsOf, of_entry, entry_of}
use Rattle.transfer_rows.specs.StateForms.{only_pointers, is_no_value}
use Rattle.transfer_rows.proofs.Steps.{no_value_is, none_is_none}
use Rattle.temporary_extents.specs.declared.extents.Extent.{Extent}
use Rattle.temporary_extents.specs.declared.extents.Extent.TheVariants as Extents
use Rattle.temporary_extents.specs.Extents.{AreBetween, IsWithin, scalar_extent}
use Rattle.post_recheck.specs.typed_values.Types.{AreObjects, IsOfType}
use Rattle.std.specs.Prelude.{◌==◌, MatchOption}
use Rattle.std.proofs.lemmas.Bool.Decides.{nat_tests}
use Rattle.certificate_words.specs.declared.words.Word.{Word as Held}
use Rattle.certificate_words.specs.Words.{Word, tag}
use Rattle.certificate_words.specs.Lines.{words_of}
use Rattle.certificate_words.specs.Numbers.{progression_words}
use Rattle.certificate_words.proofs.OneSet.{one_set}
use Rattle.certificate_parts.specs.Fronts.{IsNotBegun}
use Rattle.certificate_parts.specs.Sets.{BeginsWithSet, BeginsWithNoSet}
use Rattle.certificate_parts.specs.Risings.{AreRising}
use Rattle.certificate_parts.specs.Objects.{object_onto, FitsObject, IsNoWord}
use Rattle.certificate_parts.specs.Pointers as parts
use Rattle.certificate_parts.specs.Pointers.{objects_words, pointer_words, FitsPointers, ArePointers, HasNoPointers}
use Rattle.certificate_texts.specs.ValueWords.{bit_word, object_words, pointers_words, value_words}
use Rattle.certificate_texts.proofs.Telling.{none_words, numbers_words, only_pointers_words}
use Rattle.certificate_reading.specs.Values.{AreSizes, IsValueOf, IsNoValueOf, IsReadValue, LiesBetween, IsPointing}

-- ## Words

tail : {a b : Word} {x y : List Word} → a ∷ x ≡ b ∷ y → x ≡ y
tail e = cc

tags_differ : (a b : ℕ) (ws vs : List Word) → tag (a ∷ []) ∷ ws ≡ tag (b ∷ []) ∷ vs → a ≡ b
tags_differ a b ws vs e = let f : tag (a ∷ []) ≡ tag (b ∷ []) = cc in let g : a ∷ [] ≡ b ∷ [] = cc in cc

not_nothing : (b : ℕ) (ws : List Word) → 101 < b → tag (codes "e") ∷ [] ≡ tag (b ∷ []) ∷ ws → ⊥
not_nothing b ws l e = let f = tags_differ 101 b [] ws e in omega (arith, f, l)

empty_words : value_words no_value ≡ tag (codes "e") ∷ []
empty_words = none_words empty refl

no_member : (z : ℤ) → Has empty z → ⊥
unfolding Has
no_member z h = h

-- ## Numbers

nothing_numbers : (s : Progression) (p : Pointers) → tag (codes "e") ∷ [] ≡ value_words record { numbers = s; pointers = p }
    → s ≡ empty
nothing_numbers empty p e = refl
nothing_numbers (single v) p e =
    absurd (not_nothing 105 (progression_words (single v)) (omega arith) (e ∙ numbers_words (single v) p (λ n. cc)))
nothing_numbers (row f g m) p e =
    absurd (not_nothing 105 (progression_words (row f g m)) (omega arith) (e ∙ numbers_words (row f g m) p (λ n. cc)))

module _ (low high : ℤ) (words : List Word) where
  pub nothing_between : (v : Values) → v ≡ no_value → words ≡ tag (codes "e") ∷ [] → IsValueOf (AreBetween low high) words v
  nothing_between v n e =
      subst (IsValueOf (AreBetween low high) words) (sym n) (record {
        fits = record { all = λ z h. absurd (no_member z h); alone = refl };
        is = e ∙ sym empty_words;
        one = λ w fits i.
            (let numbers = nothing_numbers w.numbers w.pointers (sym e ∙ i) in
            let pointers = fits.alone in
            λ j. record { numbers = numbers j; pointers = pointers j });
      })

  module _ (other : words ≡ tag (codes "e") ∷ [] → ⊥) where
    some_numbers : (w : Values) → AreBetween low high w → words ≡ value_words w → w.numbers ≡ empty → ⊥
    some_numbers w fits e n =
        let pointers = fits.alone in
        let same : w ≡ no_value = λ j. record { numbers = n j; pointers = pointers j } in
        other (e ∙ (ap value_words same ∙ empty_words))

    words_are : (w : Values) → AreBetween low high w → words ≡ value_words w
        → words ≡ tag (codes "i") ∷ progression_words w.numbers
    words_are w fits e = e ∙ numbers_words w.numbers w.pointers (some_numbers w fits e)

    pub no_numbers : IsNotBegun words (codes "i") [] → IsNoValueOf (AreBetween low high) words
    no_numbers none =
        record { never = λ w fits e. none.never (progression_words w.numbers) (words_are w fits e) }

    module _ (rest : List Word) (is : words ≡ tag (codes "i") ∷ rest) where
      rest_is : (w : Values) → AreBetween low high w → words ≡ value_words w → rest ≡ progression_words w.numbers
      rest_is w fits e = tail (sym is ∙ words_are w fits e)

      pub no_set : BeginsWithNoSet rest → IsNoValueOf (AreBetween low high) words
      no_set none =
          record { never = λ w fits e. none.never w.numbers [] (some_numbers w fits e) (rest_is w fits e) }

      module _ (s : Progression) (more : List Word) (set : BeginsWithSet rest s more) where
        set_words : (w : Values) → AreBetween low high w → words ≡ value_words w
            → progression_words s ++ more ≡ progression_words w.numbers ++ []
        set_words w fits e = sym set.is ∙ rest_is w fits e

        pub more_words : (more ≡ [] → ⊥) → IsNoValueOf (AreBetween low high) words
        more_words some =
            record { never = λ w fits e. some (tail (tail (tail (set_words w fits e)))) }

        module _ (none : more ≡ []) where
          set_is : (w : Values) → AreBetween low high w → words ≡ value_words w → w.numbers ≡ s
          set_is w fits e =
              let same : progression_words w.numbers ≡ progression_words s =
              sym (rest_is w fits e) ∙ (set.is ∙ ap (λ m. progression_words s ++ m) none) in
              one_set w.numbers s (some_numbers w fits e) set.some same

          pub outside : (LiesBetween low high s → ⊥) → IsNoValueOf (AreBetween low high) words
          outside far =
              record {
                never = λ w fits e.
                    far (record { all = λ z h. fits.all z (subst (λ t. Has t z) (sym (set_is w fits e)) h) });
              }

          pub between : (v : Values) → v ≡ record { numbers = s; pointers = no_pointer } → LiesBetween low high s
              → IsValueOf (AreBetween low high) words v
          between v n near =
              subst (IsValueOf (AreBetween low high) words) (sym n) (record {
                fits = record { all = near.all; alone = refl };
                is = is ∙ (ap (λ r. tag (codes "i") ∷ r) (set.is ∙ ap (λ m. progression_words s ++ m) none)
                    ∙ sym (numbers_words s no_pointer set.some));
                one = λ w fits e.
                    (let numbers = set_is w fits e in
                    let pointers = fits.alone in
                    λ j. record { numbers = numbers j; pointers = pointers j });
              })

-- ## Pointers

bits_are : (b : Bool) → bit_word b ≡ parts.bit_word b
bits_are true = refl
bits_are false = refl

objects_are : (es : List (ℕ × OffsetSet)) → flat_map object_words es ≡ objects_words es
objects_are [] = refl
objects_are (e ∷ es) = ap (object_onto e) (objects_are es)

pointers_are : (p : Pointers) → pointers_words p ≡ tag (codes "p") ∷ pointer_words p
pointers_are p =
    λ i. tag (codes "p") ∷ bits_are p.null i ∷ bits_are p.invalid i ∷ objects_are (entries p.objects) i

-- the first key is the bound at least
abbrev IsFrom : ℕ → List (ℕ × OffsetSet) → Type 0
IsFrom bound [] = Unit {0}
IsFrom bound (e ∷ es) = bound ≤ e.0

above_from : (k : ℕ) (es : List (ℕ × OffsetSet)) → AllAbove k es → IsFrom (k + 1) es
above_from k [] h = tt
above_from k (e ∷ es) h = let l = h.0 in omega (arith, l)

rising_of : (sizes : List ℕ) (bound : ℕ) (es : List (ℕ × OffsetSet)) → IsFrom bound es → T (is_sorted nat_cmp es)
    → ((e : ℕ × OffsetSet) → IsOf es e → FitsObject sizes e) → AreRising object_onto (FitsObject sizes) IsNoWord bound es
rising_of sizes bound [] from sorted fits = tt
rising_of sizes bound (e ∷ es) from sorted fits = (
  fits e (inl refl),
  from,
  rising_of sizes (e.0 + 1) es (above_from e.0 es (AllAbove-rest e es sorted)) (is_sorted-rest e es sorted)
      (λ f h. fits f (inr h)),
)

fits_of : (sizes : List ℕ) (bound : ℕ) (es : List (ℕ × OffsetSet))
    → AreRising object_onto (FitsObject sizes) IsNoWord bound es → (e : ℕ × OffsetSet) → IsOf es e → FitsObject sizes e
fits_of sizes bound [] r e h = absurd h
fits_of sizes bound (f ∷ es) r e (inl same) = subst (FitsObject sizes) (sym same) r.0
fits_of sizes bound (f ∷ es) r e (inr h) = fits_of sizes (f.0 + 1) es r.2 e h

nothing_in : {A : Type 0} (xs : List A) → length xs ≡ 0 → xs ≡ []
nothing_in [] e = refl
nothing_in (x ∷ xs) e = absurd (omega (arith, e))

no_entries : entries no_pointer.objects ≡ []
no_entries = nothing_in (entries no_pointer.objects) (sym (len-entries no_pointer.objects) ∙ len-empty nat_cmp OffsetSet)

-- the sizes of objects
size_of : (os : List LaidObject) (d : LaidObject) (o : ℕ) → o < length os
    → get_or (map (λ (x : LaidObject). x.cells) os) o 0 ≡ (get_or os o d).cells
size_of [] d o l = absurd (omega (arith, l))
size_of (x ∷ os) d zero l = refl
size_of (x ∷ os) d (suc o) l = size_of os d o (omega (arith, l))

length_sizes : (os : List LaidObject) → length (map (λ (x : LaidObject). x.cells) os) ≡ length os
length_sizes [] = refl
length_sizes (x ∷ os) = let h = length_sizes os in omega (arith, h)

module _ (laid : LaidTree) (sizes : List ℕ) (are : AreSizes laid sizes) where
  size_is : (o : ℕ) → o < length laid.objects → get_or sizes o 0 ≡ (object_at laid o).cells
  size_is o l = ap (λ s. get_or s o 0) are ∙ size_of laid.objects _ o l

  count_is : length sizes ≡ length laid.objects
  count_is = ap length are ∙ length_sizes laid.objects

  pub fits_pointers : (p : Pointers) → IsPointers p → AreObjects laid p → FitsPointers sizes p
  fits_pointers p is objects = rising_of sizes 0 (entries p.objects) (from_zero (entries p.objects))
      (entries_sorted p.objects) each
    where
      from_zero : (es : List (ℕ × OffsetSet)) → IsFrom 0 es
      from_zero [] = tt
      from_zero (e ∷ es) = omega arith

      each : (e : ℕ × OffsetSet) → IsOf (entries p.objects) e → FitsObject sizes e
      each e h =
          let at = of_entry p.objects e h in
          let known = subst (λ (o : Option OffsetSet). IsEntry IsOffsetSet HasNoOffset o) at (is e.0) in
          let object = objects e.0 e.1 at in
          record {
            there = subst (λ n. e.0 < n) (sym count_is) object.0;
            size = object.1 ∙ sym (size_is e.0 object.0);
            within = known.0;
            some = known.1;
          }

  of_pointers : (p : Pointers) → FitsPointers sizes p → (object : ℕ) (o : OffsetSet) → get p.objects object ≡ Some o
      → FitsObject sizes (object, o)
  of_pointers p rise object o at =
      fits_of sizes 0 (entries p.objects) rise (object, o) (entry_of p.objects object o at)

  pub are_pointers : (p : Pointers) → FitsPointers sizes p → IsPointers p
  are_pointers p rise = λ object. at object (get p.objects object) refl
    where
      at : (object : ℕ) (o : Option OffsetSet) → get p.objects object ≡ o
          → IsEntry IsOffsetSet HasNoOffset (get p.objects object)
      at object None e = subst (IsEntry IsOffsetSet HasNoOffset) (sym e) tt
      at object (Some o) e =
          let fits = of_pointers p rise object o e in
          subst (IsEntry IsOffsetSet HasNoOffset) (sym e) (fits.within, fits.some)

  pub are_objects : (p : Pointers) → FitsPointers sizes p → AreObjects laid p
  are_objects p rise object o e =
      let fits = of_pointers p rise object o e in
      let there : object < length laid.objects = subst (λ n. object < n) count_is fits.there in
      (there, fits.size ∙ size_is object there)

  only_is : (w : Values) → IsPointing laid w → w ≡ only_pointers w.pointers
  only_is w fits = let n = fits.0 in λ j. record { numbers = n j; pointers = w.pointers }

  module _ (words : List Word) where
    pub nothing_pointing : (v : Values) → v ≡ no_value → words ≡ tag (codes "e") ∷ [] → IsValueOf (IsPointing laid) words v
    nothing_pointing v n e =
        subst (IsValueOf (IsPointing laid) words) (sym n) (record {
          fits = (refl, are_pointers no_pointer none_rise, are_objects no_pointer none_rise);
          is = e ∙ sym empty_words;
          one = λ w fits i. one_nothing w fits i;
        })
      where
        none_rise : FitsPointers sizes no_pointer
        none_rise = subst (AreRising object_onto (FitsObject sizes) IsNoWord 0) (sym no_entries) tt

        one_nothing : (w : Values) → IsPointing laid w → words ≡ value_words w → w ≡ no_value
        one_nothing w fits i = by_test (is_no_value w) refl
          where
            by_test : (b : Bool) → is_no_value w ≡ b → w ≡ no_value
            by_test true h = no_value_is w h
            by_test false h =
                absurd (not_nothing 112 _ (omega arith) (sym e ∙ (i ∙ (ap value_words (only_is w fits)
                ∙ only_pointers_words w.pointers (λ n.
                (let t : true ≡ false = sym none_is_none ∙ (ap is_no_value (sym (only_is w fits ∙ ap only_pointers n)) ∙ h) in
                cc))))))

    module _ (other : words ≡ tag (codes "e") ∷ [] → ⊥) where
      some_pointer : (w : Values) → IsPointing laid w → words ≡ value_words w → w.pointers ≡ no_pointer → ⊥
      some_pointer w fits e n =
          other (e ∙ (ap value_words (only_is w fits ∙ ap only_pointers n) ∙ empty_words))

      words_point : (w : Values) → IsPointing laid w → words ≡ value_words w
          → words ≡ tag (codes "p") ∷ pointer_words w.pointers
      words_point w fits e =
          e ∙ (ap value_words (only_is w fits)
          ∙ (only_pointers_words w.pointers (some_pointer w fits e) ∙ pointers_are w.pointers))

      pub no_tag : IsNotBegun words (codes "p") [] → IsNoValueOf (IsPointing laid) words
      no_tag none = record { never = λ w fits e. none.never (pointer_words w.pointers) (words_point w fits e) }

      module _ (rest : List Word) (is : words ≡ tag (codes "p") ∷ rest) where
        rest_points : (w : Values) → IsPointing laid w → words ≡ value_words w → rest ≡ pointer_words w.pointers
        rest_points w fits e = tail (sym is ∙ words_point w fits e)

        pub no_pointers : HasNoPointers sizes rest → IsNoValueOf (IsPointing laid) words
        no_pointers none =
            record {
              never = λ w fits e.
                  none.never w.pointers (fits_pointers w.pointers fits.1 fits.2) (rest_points w fits e);
            }

        module _ (p : Pointers) (all : ArePointers sizes rest p) where
          pub no_value_words : p ≡ no_pointer → IsNoValueOf (IsPointing laid) words
          no_value_words n =
              record {
                never = λ w fits e.
                    some_pointer w fits e
                    (all.one w.pointers (fits_pointers w.pointers fits.1 fits.2) (rest_points w fits e) ∙ n);
              }

          pub pointing : (v : Values) → v ≡ only_pointers p → p ≢ no_pointer → IsValueOf (IsPointing laid) words v
          pointing v n some =
              subst (IsValueOf (IsPointing laid) words) (sym n) (record {
                fits = (refl, are_pointers p all.fits, are_objects p all.fits);
                is = is ∙ (ap (λ r. tag (codes "p") ∷ r) all.is
                    ∙ (sym (pointers_are p) ∙ sym (only_pointers_words p some)));
                one = λ w fits e.
                    (only_is w fits
                    ∙ ap only_pointers (all.one w.pointers (fits_pointers w.pointers fits.1 fits.2) (rest_points w fits e)));
              })

-- ## Types

pub of_extent : (laid : LaidTree) (scalar : Scalar) (v : Values) → IsWithin laid (scalar_extent scalar) v
    → IsOfType laid scalar v
of_extent laid (Scalars.Int t) v h =
    (record { all = λ z m. (let b = h.all z m in record { at_least = b.0; at_most = b.1 }) }, h.alone)
of_extent laid (Scalars.Pointer c) v h = h

pub in_extent : (laid : LaidTree) (scalar : Scalar) (v : Values) → IsOfType laid scalar v
    → IsWithin laid (scalar_extent scalar) v
in_extent laid (Scalars.Int t) v h =
    record { all = λ z m. (let b = h.0.all z m in (b.at_least, b.at_most)); alone = h.1 }
in_extent laid (Scalars.Pointer c) v h = h

-- the same values have both properties
pub read_as : (P Q : Values → Type 0) → ((v : Values) → P v → Q v) → ((v : Values) → Q v → P v) → (words : List Word)
    (found : Option Values) → IsReadValue P words found → IsReadValue Q words found
read_as P Q to from words None h = record { never = λ w fits e. h.never w (from w fits) e }
read_as P Q to from words (Some v) h =
    record { fits = to v h.fits; is = h.is; one = λ w fits e. h.one w (from w fits) e }

-- ## Tests

-- what a test denies
pub not_so : {P : Type 0} {b : Bool} → (P → b ≡ true) → b ≡ false → P → ⊥
not_so test no_more p = let e : true ≡ false = sym (test p) ∙ no_more in cc

no_zero : (n : ℕ) → 0 < n → (n == 0) ≡ true → ⊥
no_zero n h e = grind (arith, nat_tests)

pub some_rest : (ws : List Held) (b : Bool) → b ≡ (length ws == 0) → b ≡ false → words_of ws ≡ [] → ⊥
some_rest [] b h f e = let t : true ≡ false = sym h ∙ f in cc
some_rest (w ∷ ws) b h f e = cc

pub empty_rest : (ws : List Held) (b : Bool) → b ≡ (length ws == 0) → b ≡ true → words_of ws ≡ []
empty_rest [] b h t = refl
empty_rest (w ∷ ws) b h t = absurd (no_zero (length (w ∷ ws)) (omega arith) (sym h ∙ t))

-- what is read of pointers
pub read_pointers : (laid : LaidTree) (sizes : List ℕ) (are : AreSizes laid sizes) (words : List Word)
    → (words ≡ tag (codes "e") ∷ [] → ⊥) → (rest : List Word) → words ≡ tag (codes "p") ∷ rest → (p : Pointers)
    → ArePointers sizes rest p → (found : Option Values)
    → MatchOption found (p ≡ no_pointer) (λ v. (v ≡ only_pointers p) × (p ≢ no_pointer))
    → IsReadValue (IsPointing laid) words found
read_pointers laid sizes are words other rest is p all None h =
    no_value_words laid sizes are words other rest is p all h
read_pointers laid sizes are words other rest is p all (Some v) h =
    pointing laid sizes are words other rest is p all v h.0 h.1

-- ## Nothing

module _ (laid : LaidTree) (words : List Word) (extent : Extent) (is : extent ≡ Extents.Nothing) where
  none_is : (v : Values) → IsWithin laid extent v → v ≡ no_value
  none_is v h = subst (λ e. IsWithin laid e v) is h

  pub nothing_there : (v : Values) → v ≡ no_value → words ≡ tag (codes "e") ∷ [] → IsValueOf (IsWithin laid extent) words v
  nothing_there v n e =
      record {
        fits = subst (λ x. IsWithin laid x v) (sym is) n;
        is = e ∙ (sym empty_words ∙ ap value_words (sym n));
        one = λ w fits i. none_is w fits ∙ sym n;
      }

  pub nothing_else : (words ≡ tag (codes "e") ∷ [] → ⊥) → IsNoValueOf (IsWithin laid extent) words
  nothing_else other =
      record { never = λ w fits i. other (i ∙ (ap value_words (none_is w fits) ∙ empty_words)) }

-- ends that code passes on
pub lies_passed : (a b low high : ℤ) (s : Progression) → a ≡ low → b ≡ high → LiesBetween a b s → LiesBetween low high s
lies_passed a b low high s e f h = subst (λ z. LiesBetween low z s) f (subst (λ z. LiesBetween z b s) e h)
