-- A set of numbers is known by its least number, its greatest and its stride.
use Rattle.std.proofs.Common.{◌≡◌, refl, sym, ap, ◌∙◌, ℕ, ◌+◌, ◌*◌, ℤ, pos, [], ◌∷◌, arith}
use Rattle.std.specs.Prelude.{◌+ℤ◌, ◌/◌}
use Rattle.std.proofs.Math.Nat.{mul-div_cancel}
use Rattle.std.proofs.lemmas.Int.{ints}
use Rattle.strided_dom.specs.Progression.{Progression, empty, single, row, first_of, last_of, stride_of}
use Rattle.certificate_words.specs.Words.{number}
use Rattle.certificate_words.specs.Numbers.{progression_words}

-- three words
same_words : (a b c x y z : ℤ) → number a ∷ number b ∷ number c ∷ [] ≡ number x ∷ number y ∷ number z ∷ []
    → (a ≡ x) × (b ≡ y) × (c ≡ z)
same_words a b c x y z e = ((let f : a ≡ x = cc in f), (let f : b ≡ y = cc in f), (let f : c ≡ z = cc in f))

same_natural : (n m : ℕ) → pos n ≡ pos m → n ≡ m
same_natural n m e = cc

factor : (a b g : ℕ) → (a + 1) * (g + 1) ≡ (b + 1) * (g + 1) → a ≡ b
factor a b g e =
    let f : a + 1 ≡ b + 1 =
    sym (mul-div_cancel (a + 1) {n = g + 1} (omega arith)) ∙ (ap (λ z. z / (g + 1)) e ∙ mul-div_cancel (b + 1) {n = g + 1} (omega arith))
    in omega (arith, f)

pub one_set : (s t : Progression) → (s ≡ empty → ⊥) → (t ≡ empty → ⊥) → progression_words s ≡ progression_words t
    → s ≡ t
unfolding first_of last_of stride_of
one_set empty t h k e = absurd (h refl)
one_set s empty h k e = absurd (k refl)
one_set (single v) (single w) h k e = let p = same_words v v (pos 0) w w (pos 0) e in ap single p.0
one_set (single v) (row first gap more) h k e =
    let p = same_words v v (pos 0) first (first +ℤ pos ((more + 1) * (gap + 1))) (pos (gap + 1)) e in
    let f : 0 ≡ gap + 1 = same_natural 0 (gap + 1) p.2 in absurd (omega (arith, f))
one_set (row first gap more) (single v) h k e =
    let p = same_words first (first +ℤ pos ((more + 1) * (gap + 1))) (pos (gap + 1)) v v (pos 0) e in
    let f : gap + 1 ≡ 0 = same_natural (gap + 1) 0 p.2 in absurd (omega (arith, f))
one_set (row a g n) (row b f m) h k e =
    let p = same_words a (a +ℤ pos ((n + 1) * (g + 1))) (pos (g + 1)) b (b +ℤ pos ((m + 1) * (f + 1))) (pos (f + 1)) e in
    let gaps : g + 1 ≡ f + 1 = same_natural (g + 1) (f + 1) p.2 in
    let gap : g ≡ f = omega (arith, gaps) in
    let firsts : a ≡ b = p.0 in
    let lasts : a +ℤ pos ((n + 1) * (g + 1)) ≡ b +ℤ pos ((m + 1) * (f + 1)) = p.1 in
    let spans : (n + 1) * (g + 1) ≡ (m + 1) * (f + 1) = spans_of a b ((n + 1) * (g + 1)) ((m + 1) * (f + 1)) firsts lasts in
    let count : n ≡ m = factor n m g (spans ∙ ap (λ z. (m + 1) * (z + 1)) (sym gap)) in
    ap (λ z. row z g n) firsts ∙ (ap (λ z. row b z n) gap ∙ ap (row b f) count)
  where
    spans_of : (a b : ℤ) (x y : ℕ) → a ≡ b → a +ℤ pos x ≡ b +ℤ pos y → x ≡ y
    spans_of a b x y h k = omega (arith, ints)
