-- Values of one kind have one list of words.
use Rattle.std.proofs.Common.{◌≡◌, refl, sym, ap, subst, ◌∙◌, ℕ, pos, Bool, true, false, cond, List, [], ◌∷◌, ◌++◌}
use Rattle.std.proofs.Common.{Option, Some, inl, inr, arith}
use Rattle.std.specs.Prelude.{codes}
use Rattle.std.specs.List.{flat_map}
use Rattle.std.specs.FinMap.{get, entries, same_entries_map}
use Rattle.strided_dom.specs.Progression.{Progression, empty, single, row, first_of, last_of, stride_of}
use Rattle.tm_lattice.specs.Tables.{IsEntry}
use Rattle.pointer_dom.specs.OffsetSets.{OffsetSet, IsOffsetSet, HasNoOffset}
use Rattle.pointer_dom.specs.PointerSets.{IsPointers, no_pointer}
use Rattle.pointer_dom.specs.Values.{Values}
use Rattle.interfere_set.specs.laws.Joins.{IsOf, of_entry}
use Rattle.transfer_rows.specs.StateForms.{is_empty, is_no_value}
use Rattle.transfer_rows.proofs.Steps.{no_value_is}
use Rattle.certificate_words.specs.Words.{Word, tag, number}
use Rattle.certificate_words.specs.Numbers.{progression_words}
use Rattle.certificate_words.proofs.OneSet.{one_set}
use Rattle.certificate_texts.specs.ValueWords.{bit_word, object_words, pointers_words, some_words, value_words}

-- ## Words

pub natural : (n m : ℕ) → number (pos n) ≡ number (pos m) → n ≡ m
natural n m e = let f : pos n ≡ pos m = cc in cc

one_bit : (a b : Bool) → bit_word a ≡ bit_word b → a ≡ b
one_bit true true e = refl
one_bit false false e = refl
one_bit true false e = absurd (let g = natural 1 0 e in omega (arith, g))
one_bit false true e = absurd (let g = natural 0 1 e in omega (arith, g))

pub split : (w v : Word) (ws vs : List Word) → w ∷ ws ≡ v ∷ vs → (w ≡ v) × (ws ≡ vs)
split w v ws vs e = ((let f : w ≡ v = cc in f), (let f : ws ≡ vs = cc in f))

-- the three words of a set, and those behind them
three : (s t : Progression) (ws vs : List Word) → progression_words s ++ ws ≡ progression_words t ++ vs
    → (progression_words s ≡ progression_words t) × (ws ≡ vs)
three s t ws vs e =
    let a = split (number (first_of s)) (number (first_of t)) _ _ e in
    let b = split (number (last_of s)) (number (last_of t)) _ _ a.1 in
    let c = split (number (pos (stride_of s))) (number (pos (stride_of t))) ws vs b.1 in
    (λ i. a.0 i ∷ b.0 i ∷ c.0 i ∷ [], c.1)

tags_differ : (a b : ℕ) (ws vs : List Word) → tag (a ∷ []) ∷ ws ≡ tag (b ∷ []) ∷ vs → a ≡ b
tags_differ a b ws vs e = let f : tag (a ∷ []) ≡ tag (b ∷ []) = cc in let g : a ∷ [] ≡ b ∷ [] = cc in cc

-- ## Values of one kind

-- numbers or pointers, which lead into objects of these sizes
pub record IsOneKind (sizes : ℕ → ℕ) (v : Values) : Type 0 where
  pub pointers : IsPointers v.pointers
  pub sized : (object : ℕ) (o : OffsetSet) → get v.pointers.objects object ≡ Some o → o.size ≡ sizes object
  pub alone : (v.numbers ≡ empty → ⊥) → v.pointers ≡ no_pointer

module _ (sizes : ℕ → ℕ) where
  -- each entry has an offset, and the size that its object has
  abbrev AreSized : List (ℕ × OffsetSet) → Type 0
  AreSized [] = Unit {0}
  AreSized (e ∷ es) = (e.1.offsets ≡ empty → ⊥) × (e.1.size ≡ sizes e.0) × AreSized es

  one_entry : (d e : ℕ × OffsetSet) → d.0 ≡ e.0 → d.1.offsets ≡ e.1.offsets → d.1.size ≡ sizes d.0
      → e.1.size ≡ sizes e.0 → d ≡ e
  one_entry d e k o s t =
      let size : d.1.size ≡ e.1.size = s ∙ ap sizes k ∙ sym t in
      (λ i. (k i, record { size = size i; offsets = o i }))

  same_entries : (es fs : List (ℕ × OffsetSet)) → AreSized es → AreSized fs
      → flat_map object_words es ≡ flat_map object_words fs → es ≡ fs
  same_entries [] [] h k e = refl
  same_entries [] (f ∷ fs) h k e = absurd (cc)
  same_entries (d ∷ es) [] h k e = absurd (cc)
  same_entries (d ∷ es) (f ∷ fs) h k e =
      let a = split (number (pos d.0)) (number (pos f.0)) _ _ e in
      let b = three d.1.offsets f.1.offsets (flat_map object_words es) (flat_map object_words fs) a.1 in
      let head : d ≡ f = one_entry d f (natural d.0 f.0 a.0)
      (one_set d.1.offsets f.1.offsets h.0 k.0 b.0) h.1 k.1 in
      ap (λ z. z ∷ es) head ∙ ap (λ z. f ∷ z) (same_entries es fs h.2 k.2 b.1)

  module _ (v : Values) (is : IsOneKind sizes v) where
    entries_sized : (es : List (ℕ × OffsetSet))
        → ((e : ℕ × OffsetSet) → IsOf es e → get v.pointers.objects e.0 ≡ Some e.1) → AreSized es
    entries_sized [] h = tt
    entries_sized (e ∷ es) h =
        let at = h e (inl refl) in (
          λ none. (subst (λ (o : Option OffsetSet). IsEntry IsOffsetSet HasNoOffset o) at (is.pointers e.0)).1 none,
          is.sized e.0 e.1 at,
          entries_sized es (λ f k. h f (inr k)),
        )

    all_sized : AreSized (entries v.pointers.objects)
    all_sized = entries_sized (entries v.pointers.objects) (λ e h. of_entry v.pointers.objects e h)

  one_pointers : (v w : Values) → IsOneKind sizes v → IsOneKind sizes w
      → pointers_words v.pointers ≡ pointers_words w.pointers → v.pointers ≡ w.pointers
  one_pointers v w v-is w-is e =
      let p = v.pointers in
      let q = w.pointers in
      let a = split (tag (codes "p")) (tag (codes "p")) _ _ e in
      let b = split (bit_word p.null) (bit_word q.null) _ _ a.1 in
      let c = split (bit_word p.invalid) (bit_word q.invalid) _ _ b.1 in
      let null : p.null ≡ q.null = one_bit p.null q.null b.0 in
      let invalid : p.invalid ≡ q.invalid = one_bit p.invalid q.invalid c.0 in
      let objects : p.objects ≡ q.objects =
      same_entries_map p.objects q.objects (same_entries (entries p.objects) (entries q.objects)
      (all_sized v v-is) (all_sized w w-is) c.1) in
      (λ i. record { null = null i; invalid = invalid i; objects = objects i })

  -- ## Values

  is_empty_is : (s : Progression) → is_empty s ≡ true → s ≡ empty
  is_empty_is empty e = refl
  is_empty_is (single v) e = absurd (cc)
  is_empty_is (row first gap more) e = absurd (cc)

  not_empty : (s : Progression) → is_empty s ≡ false → s ≡ empty → ⊥
  not_empty s e none = (let h : true ≡ false = sym (ap is_empty none) ∙ e in cc)

  module _ (v w : Values) (v-is : IsOneKind sizes v) (w-is : IsOneKind sizes w) where
    one_some : (a b : Bool) → is_empty v.numbers ≡ a → is_empty w.numbers ≡ b
        → cond a (pointers_words v.pointers) (tag (codes "i") ∷ progression_words v.numbers)
        ≡ cond b (pointers_words w.pointers) (tag (codes "i") ∷ progression_words w.numbers)
        → (v.numbers ≡ w.numbers) × (v.pointers ≡ w.pointers)
    one_some true true h k e =
        (is_empty_is v.numbers h ∙ sym (is_empty_is w.numbers k), one_pointers v w v-is w-is e)
    one_some true false h k e = absurd (let f = tags_differ 112 105 _ _ e in omega (arith, f))
    one_some false true h k e = absurd (let f = tags_differ 105 112 _ _ e in omega (arith, f))
    one_some false false h k e =
        let none = not_empty v.numbers h in
        let other = not_empty w.numbers k in
        let r = split (tag (codes "i")) (tag (codes "i")) (progression_words v.numbers) (progression_words w.numbers) e in
        (one_set v.numbers w.numbers none other r.1, v-is.alone none ∙ sym (w-is.alone other))

    no_mark : (u : Values) (a : Bool) → tag (codes "e") ∷ []
        ≡ cond a (pointers_words u.pointers) (tag (codes "i") ∷ progression_words u.numbers) → ⊥
    no_mark u true e = let f = tags_differ 101 112 _ _ e in omega (arith, f)
    no_mark u false e = let f = tags_differ 101 105 _ _ e in omega (arith, f)

    by_none : (a b : Bool) → is_no_value v ≡ a → is_no_value w ≡ b
        → cond a (tag (codes "e") ∷ []) (some_words v) ≡ cond b (tag (codes "e") ∷ []) (some_words w) → v ≡ w
    by_none true true h k e = no_value_is v h ∙ sym (no_value_is w k)
    by_none true false h k e = absurd (no_mark w (is_empty w.numbers) e)
    by_none false true h k e = absurd (no_mark v (is_empty v.numbers) (sym e))
    by_none false false h k e =
        let r = one_some (is_empty v.numbers) (is_empty w.numbers) refl refl e in
        (λ i. record { numbers = r.0 i; pointers = r.1 i })

    pub one_value : value_words v ≡ value_words w → v ≡ w
    one_value e = by_none (is_no_value v) (is_no_value w) refl refl e
