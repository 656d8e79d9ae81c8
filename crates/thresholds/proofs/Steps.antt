-- What several numbers more give, and how a number of a text is read as an `i128`.
use Rattle.std.proofs.Common.{◌≡◌, ◌∙◌, ℕ, ◌<◌, ◌^◌, List, [], ◌∷◌, ◌++◌, ℤ, pos, ◌-ℤ◌, FitsSigned, to_z, of_z, ap}
use Rattle.std.proofs.Common.{append_assoc, subst, sym, arith}
use Rattle.std.specs.Int.{w128}
use Rattle.std.proofs.lemmas.Int.{ints, to_z-of_z}

pub two_more : (old mid new : List ℤ) (a b x y : ℤ) → mid ≡ old ++ a ∷ [] → new ≡ mid ++ b ∷ [] → a ≡ x → b ≡ y
    → new ≡ old ++ x ∷ y ∷ []
two_more old mid new a b x y first second is_x is_y =
    second ∙ ap (λ l. l ++ b ∷ []) first ∙ append_assoc old (a ∷ []) (b ∷ [])
    ∙ ap (λ z. old ++ z ∷ b ∷ []) is_x ∙ ap (λ z. old ++ x ∷ z ∷ []) is_y

pub four_more : (old m1 m2 m3 new : List ℤ) (a b c d x y z w : ℤ) → m1 ≡ old ++ a ∷ [] → m2 ≡ m1 ++ b ∷ []
    → m3 ≡ m2 ++ c ∷ [] → new ≡ m3 ++ d ∷ [] → a ≡ x → b ≡ y → c ≡ z → d ≡ w → new ≡ old ++ x ∷ y ∷ z ∷ w ∷ []
four_more old m1 m2 m3 new a b c d x y z w first second third fourth is_x is_y is_z is_w =
    two_more m2 m3 new c d z w third fourth is_z is_w
    ∙ ap (λ l. l ++ z ∷ w ∷ []) (two_more old m1 m2 a b x y first second is_x is_y)
    ∙ append_assoc old (x ∷ y ∷ []) (z ∷ w ∷ [])

-- a number that came from an unsigned one
pub number_read : (n : ℕ) (z : ℤ) → n < 2 ^ 127 → z ≡ pos n → to_z w128 (of_z w128 z) ≡ pos n
number_read n z lt e =
    let fits : FitsSigned w128 (pos n) = omega (arith, ints, lt) in
    to_z-of_z w128 z (subst (FitsSigned w128) (sym e) fits) ∙ e

-- what a sum of numbers is read as, by what each is read as
pub sum_read : (f : ℤ → ℤ) (v z : ℤ) → v ≡ z → FitsSigned w128 (f z) → to_z w128 (of_z w128 (f v)) ≡ f z
sum_read f v z e fits = ap (λ u. to_z w128 (of_z w128 (f u))) e ∙ to_z-of_z w128 (f z) fits

-- its opposite
pub opposite_read : (n : ℕ) (z : ℤ) → n < 2 ^ 127 → z ≡ pos n
    → to_z w128 (of_z w128 (pos 0 -ℤ to_z w128 (of_z w128 z))) ≡ pos 0 -ℤ pos n
opposite_read n z lt e =
    let fits : FitsSigned w128 (pos 0 -ℤ pos n) = omega (arith, ints, lt) in
    ap (λ v. to_z w128 (of_z w128 (pos 0 -ℤ v))) (number_read n z lt e) ∙ to_z-of_z w128 (pos 0 -ℤ pos n) fits

-- what is one less
pub less_read : (n : ℕ) (z : ℤ) → n < 2 ^ 127 → z ≡ pos n
    → to_z w128 (of_z w128 (to_z w128 (of_z w128 z) -ℤ pos 1)) ≡ pos n -ℤ pos 1
less_read n z lt e =
    let fits : FitsSigned w128 (pos n -ℤ pos 1) = omega (arith, ints, lt) in
    ap (λ v. to_z w128 (of_z w128 (v -ℤ pos 1))) (number_read n z lt e) ∙ to_z-of_z w128 (pos n -ℤ pos 1) fits
