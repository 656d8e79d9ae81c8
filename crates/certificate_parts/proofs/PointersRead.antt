-- Pointers are read from their words.
use Rattle.std.proofs.Common.{◌≡◌, refl, sym, ap, ◌∙◌, ℕ, ℤ, pos, Bool, true, false, List, [], ◌∷◌, arith}
use Rattle.std.specs.FinMap.{FinMap, entries, same_entries_map}
use Rattle.std.specs.Ordering.{nat_cmp}
use Rattle.pointer_dom.specs.OffsetSets.{OffsetSet}
use Rattle.pointer_dom.specs.PointerSets.{Pointers}
use Rattle.certificate_words.specs.Words.{Word, number}
use Rattle.certificate_parts.specs.Fronts.{BeginsWithNoNumber}
use Rattle.certificate_parts.specs.Risings.{entries_onto, AreEntries}
use Rattle.certificate_parts.specs.Objects.{object_onto, FitsObject, IsNoWord, HasNoObjects}
use Rattle.certificate_parts.specs.Pointers.{bit_word, objects_words, pointer_words, ArePointers}
use Rattle.certificate_parts.specs.Pointers.{HasNoPointers, BeginsWithNoBit}

head : {a b : Word} {x y : List Word} → a ∷ x ≡ b ∷ y → a ≡ b
head e = cc

tail : {a b : Word} {x y : List Word} → a ∷ x ≡ b ∷ y → x ≡ y
tail e = cc

natural : (a b : ℕ) → number (pos a) ≡ number (pos b) → a ≡ b
natural a b e = let f : pos a ≡ pos b = cc in cc

one_bit : (a b : Bool) → bit_word a ≡ bit_word b → a ≡ b
one_bit true true e = refl
one_bit false false e = refl
one_bit true false e = absurd (let g = natural 1 0 e in omega (arith, g))
one_bit false true e = absurd (let g = natural 0 1 e in omega (arith, g))

-- ## Bits

pub no_bit_number : (words : List Word) → BeginsWithNoNumber words → BeginsWithNoBit words
no_bit_number words none = record { never = by_bit }
  where
    by_bit : (b : Bool) (more : List Word) → words ≡ bit_word b ∷ more → ⊥
    by_bit true more e = none.never (pos 1) more e
    by_bit false more e = none.never (pos 0) more e

pub no_bit : (words : List Word) (z : ℤ) (behind : List Word) → words ≡ number z ∷ behind → (z ≡ pos 0 → ⊥)
    → (z ≡ pos 1 → ⊥) → BeginsWithNoBit words
no_bit words z behind is zero one = record { never = by_bit }
  where
    by_bit : (b : Bool) (more : List Word) → words ≡ bit_word b ∷ more → ⊥
    by_bit true more e = one (let f : number z ≡ number (pos 1) = head (sym is ∙ e) in cc)
    by_bit false more e = zero (let f : number z ≡ number (pos 0) = head (sym is ∙ e) in cc)

-- ## Pointers

objects_are : (sizes : List ℕ) (es : List (ℕ × OffsetSet))
    → objects_words es ≡ entries_onto object_onto (FitsObject sizes) IsNoWord es []
objects_are sizes [] = refl
objects_are sizes (e ∷ es) = ap (object_onto e) (objects_are sizes es)

module _ (sizes : List ℕ) (words : List Word) where
  pub no_null : BeginsWithNoBit words → HasNoPointers sizes words
  no_null none =
      record { never = λ q fits e. none.never q.null (bit_word q.invalid ∷ objects_words (entries q.objects)) e }

  module _ (null : Bool) (behind : List Word) (is : words ≡ bit_word null ∷ behind) where
    pub no_invalid : BeginsWithNoBit behind → HasNoPointers sizes words
    no_invalid none =
        record { never = λ q fits e. none.never q.invalid (objects_words (entries q.objects)) (tail (sym is ∙ e)) }

    module _ (invalid : Bool) (more : List Word) (is_behind : behind ≡ bit_word invalid ∷ more) where
      objects_of : (q : Pointers) → words ≡ pointer_words q
          → more ≡ entries_onto object_onto (FitsObject sizes) IsNoWord (entries q.objects) []
      objects_of q e = tail (sym is_behind ∙ tail (sym is ∙ e)) ∙ objects_are sizes (entries q.objects)

      pub none_left : HasNoObjects sizes more → HasNoPointers sizes words
      none_left none = record { never = λ q fits e. none.never (entries q.objects) fits (objects_of q e) }

      pub are_pointers : (t : FinMap nat_cmp OffsetSet)
          → AreEntries object_onto (FitsObject sizes) IsNoWord more (entries t) []
          → ArePointers sizes words (record { null = null; invalid = invalid; objects = t })
      are_pointers t all =
          record {
            fits = all.rise;
            is = is ∙ (ap (λ w. bit_word null ∷ w) (is_behind
                ∙ ap (λ w. bit_word invalid ∷ w) (all.is ∙ sym (objects_are sizes (entries t)))));
            one = λ q fits e.
                (let a = one_bit q.null null (sym (head (sym is ∙ e))) in
                let b = one_bit q.invalid invalid (sym (head (sym is_behind ∙ tail (sym is ∙ e)))) in
                let c = same_entries_map q.objects t (all.one (entries q.objects) [] fits refl (objects_of q e)).0 in
                λ i. record { null = a i; invalid = b i; objects = c i });
          }
