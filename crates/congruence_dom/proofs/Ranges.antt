-- The code's integers have 128 bits, and hold all that the rows make.
use Rattle.std.proofs.Common.{◌≡◌, ℕ, zero, suc, ◌-◌, ◌*◌, ◌/◌, ◌^◌, ◌<◌, ◌≤◌, ℤ, pos, negsuc, neg_ℤ, ◌*ℤ◌, ◌≤ℤ◌, FitsSigned, to_z, of_z, arith, ap, ◌∙◌, refl}
use Rattle.std.specs.Prelude.{unsigned_abs, int_div}
use Rattle.std.specs.Int.{w128}
use Rattle.std.proofs.lemmas.Nat.{mul-le}
use Rattle.std.proofs.lemmas.Int.{ints, to_z-of_z, fits_signed_mul, unsigned_abs-mul}
use Rattle.std.proofs.lemmas.Nat.Gcd.{le_of_dvd, dvd_trans}
use Rattle.congruence_dom.specs.declared.classes.Cong.{Cong}
use Rattle.congruence_dom.specs.Class.{IsSignedClass, IsTypeClass}
use Rattle.tm_numbers.specs.Divisors.{gcd}
use Rattle.congruence_dom.specs.Rows.{mul_row}
use Rattle.tm_numbers.proofs.Gcds.{gcd_below_right, gcd_bound, gcd_is}

pub back : (z : ℤ) → FitsSigned w128 z → to_z w128 (of_z w128 z) ≡ z
back z f = to_z-of_z w128 z f

pub same_parts : {p q : Cong} → p.residue ≡ q.residue → p.modulus ≡ q.modulus → p ≡ q
same_parts {p} {q} e f = with_residue p.modulus e ∙ with_modulus q.residue f
  where
    class_from : ℤ → ℤ → Cong
    class_from r m = record { residue = r; modulus = m }

    with_residue : {r s : ℤ} (m : ℤ) → r ≡ s → class_from r m ≡ class_from s m
    with_residue m e = ap (λ (x : ℤ). class_from x m) e

    with_modulus : {m n : ℤ} (r : ℤ) → m ≡ n → class_from r m ≡ class_from r n
    with_modulus r e = ap (λ (x : ℤ). class_from r x) e

-- what a call says of its arguments as the code passes them
pub of_two : (f : ℤ → ℤ → ℤ) {x y r : ℤ} → FitsSigned w128 x → FitsSigned w128 y → r ≡ f (to_z w128 (of_z w128 x)) (to_z w128 (of_z w128 y)) → r ≡ f x y
of_two f {x} {y} g h e = e ∙ ap (λ (z : ℤ). f z (to_z w128 (of_z w128 y))) (back x g) ∙ ap (λ (z : ℤ). f x z) (back y h)

pub residue_fits : (a : Cong) → IsTypeClass a → FitsSigned w128 a.residue
residue_fits a h = omega (arith, ints, h.low, h.high)

pub modulus_fits : (a : Cong) → IsTypeClass a → FitsSigned w128 a.modulus
modulus_fits a h = omega (arith, ints, h.modulus_low, h.modulus_high)

pub fits_from_size : (z : ℤ) → unsigned_abs z < 2 ^ 64 → FitsSigned w128 z
fits_from_size z h = omega (arith, ints)

pub signed_is_type : (a : Cong) → IsSignedClass a → IsTypeClass a
signed_is_type a h = record {
  low = h.low;
  high = omega (arith, ints, h.low, h.high, h.modulus_low);
  modulus_low = h.modulus_low;
  modulus_high = omega (arith, ints, h.low, h.high, h.modulus_low);
}

pub code_product : (x y : ℤ) → FitsSigned w128 x → FitsSigned w128 y → unsigned_abs x < 2 ^ 64 → unsigned_abs y ≤ 2 ^ 63
    → to_z w128 (of_z w128 (to_z w128 (of_z w128 x) *ℤ to_z w128 (of_z w128 y))) ≡ x *ℤ y
code_product x y f g h k =
    ap (λ (z : ℤ). to_z w128 (of_z w128 (z *ℤ to_z w128 (of_z w128 y)))) (back x f)
    ∙ ap (λ (z : ℤ). to_z w128 (of_z w128 (x *ℤ z))) (back y g)
    ∙ back (x *ℤ y) (fits_signed_mul w128 x y (2 ^ 64 - 1) (2 ^ 63) (omega arith) k (omega arith))

-- ---- the greatest common divisor of the three products fits a signed number

by_factor : (n m s : ℕ) → n ≤ m * s → m < 2 ^ 64 → s ≤ 2 ^ 63 → n < 2 ^ 127
by_factor n m s h p q = omega (arith, mul-le m s (2 ^ 64 - 1) (2 ^ 63) (omega arith) q)

all_below : (p q r t : ℕ) → p < t → q < t → r < t → gcd (gcd p q) r < t
all_below p q r zero h k j = absurd (omega arith)
all_below p q r (suc t) h k j = omega (arith, gcd_bound (gcd p q) r t (gcd_bound p q t (omega arith) (omega arith)) (omega arith))

below_second : (p q r : ℕ) → 0 < q → gcd (gcd p q) r ≤ q
below_second p q r h = le_of_dvd h (dvd_trans _ (gcd_is (gcd p q) r).0 (gcd_is p q).1)

-- the moduli m and n, and the sizes r and s of the residues, by which of them are 0
divisor_cases : (m n r s : ℕ) → m < 2 ^ 64 → n < 2 ^ 64 → r ≤ 2 ^ 63 → s ≤ 2 ^ 63 → (r ≡ 0 → m < 2 ^ 63) → (s ≡ 0 → n < 2 ^ 63)
    → gcd (gcd (m * n) (m * s)) (n * r) < 2 ^ 127
divisor_cases m n zero zero hm hn hr hs zr zs =
    let p = zr refl in
    let q = zs refl in
    all_below _ _ _ _ (omega (arith, mul-le m n (2 ^ 63) (2 ^ 63) (omega arith) (omega arith))) (omega arith) (omega arith)
divisor_cases m zero (suc r) zero hm hn hr hs zr zs = all_below _ _ _ _ (omega arith) (omega arith) (omega arith)
divisor_cases m (suc n) (suc r) zero hm hn hr hs zr zs = by_factor _ (suc n) (suc r) (gcd_below_right _ (suc n * suc r) (omega arith)) hn hr
divisor_cases zero n r (suc s) hm hn hr hs zr zs = all_below _ _ _ _ (omega arith) (omega arith) (by_factor _ n r (omega arith) hn hr)
divisor_cases (suc m) n r (suc s) hm hn hr hs zr zs = by_factor _ (suc m) (suc s) (below_second _ (suc m * suc s) _ (omega arith)) hm hs

sizes : (a : Cong) → IsSignedClass a → (unsigned_abs a.modulus < 2 ^ 64) × (unsigned_abs a.residue ≤ 2 ^ 63) × (unsigned_abs a.residue ≡ 0 → unsigned_abs a.modulus < 2 ^ 63)
sizes a h = (omega (arith, ints, h.low, h.high, h.modulus_low), omega (arith, ints, h.low, h.high, h.modulus_low), λ e. omega (arith, ints, h.low, h.high, h.modulus_low))

pub divisor_fits : (a b : Cong) (d : ℕ) → IsSignedClass a → IsSignedClass b → pos d ≡ (mul_row a b).modulus → d < 2 ^ 127
divisor_fits a b d ha hb e =
    let m = unsigned_abs a.modulus in
    let n = unsigned_abs b.modulus in
    let r = unsigned_abs a.residue in
    let s = unsigned_abs b.residue in
    let f : d ≡ gcd (gcd (unsigned_abs (a.modulus *ℤ b.modulus)) (unsigned_abs (a.modulus *ℤ b.residue))) (unsigned_abs (b.modulus *ℤ a.residue)) = ap unsigned_abs e in
    let g : d ≡ gcd (gcd (m * n) (m * s)) (n * r) =
    f ∙ ap (λ (t : ℕ). gcd (gcd t (unsigned_abs (a.modulus *ℤ b.residue))) (unsigned_abs (b.modulus *ℤ a.residue))) (unsigned_abs-mul a.modulus b.modulus)
    ∙ ap (λ (t : ℕ). gcd (gcd (m * n) t) (unsigned_abs (b.modulus *ℤ a.residue))) (unsigned_abs-mul a.modulus b.residue)
    ∙ ap (λ (t : ℕ). gcd (gcd (m * n) (m * s)) t) (unsigned_abs-mul b.modulus a.residue) in
    let sa = sizes a ha in
    let sb = sizes b hb in
    let small = divisor_cases m n r s sa.0 sb.0 sa.1 sb.1 sa.2 sb.2 in
    omega (arith, g, small)

pub size_of_neg : (n : ℕ) → unsigned_abs (neg_ℤ (pos n)) ≡ n
size_of_neg zero = refl
size_of_neg (suc n) = refl

-- the size of a quotient of a number that is not negative
pub size_of_quotient : (m b : ℤ) → pos 0 ≤ℤ m → pos (unsigned_abs (int_div m b)) ≡ int_div m (pos (unsigned_abs b))
size_of_quotient (pos k) (pos n) h = refl
size_of_quotient (pos k) (negsuc n) h = ap pos (size_of_neg (k / suc n))
size_of_quotient (negsuc k) b h = absurd (omega (arith, ints))

-- what the code's divisor is
pub common_is : (x y : ℤ) (r a b : ℕ) → FitsSigned w128 x → FitsSigned w128 y → a ≡ unsigned_abs (to_z w128 (of_z w128 x)) → b ≡ unsigned_abs (to_z w128 (of_z w128 y))
    → r ≡ gcd a b → unsigned_abs x < 2 ^ 64 → unsigned_abs y < 2 ^ 64 → (r ≡ gcd (unsigned_abs x) (unsigned_abs y)) × (r < 2 ^ 64)
common_is x y r a b f g h k e p q =
    let ea : a ≡ unsigned_abs x = h ∙ ap unsigned_abs (back x f) in
    let eb : b ≡ unsigned_abs y = k ∙ ap unsigned_abs (back y g) in (
      e ∙ ap (λ (t : ℕ). gcd t b) ea ∙ ap (λ (t : ℕ). gcd (unsigned_abs x) t) eb,
      omega (arith, e, gcd_bound a b (2 ^ 64 - 1) (omega arith) (omega arith)),
    )

-- the size of a product of numbers that are not negative is the product
pub size_back : (x y : ℤ) → FitsSigned w128 x → FitsSigned w128 y → pos 0 ≤ℤ x → pos 0 ≤ℤ y
    → pos (unsigned_abs (to_z w128 (of_z w128 x) *ℤ to_z w128 (of_z w128 y))) ≡ x *ℤ y
size_back x y f g h k =
    ap (λ (z : ℤ). pos (unsigned_abs (z *ℤ to_z w128 (of_z w128 y)))) (back x f) ∙ ap (λ (z : ℤ). pos (unsigned_abs (x *ℤ z))) (back y g) ∙ same x y h k
  where
    same : (x y : ℤ) → pos 0 ≤ℤ x → pos 0 ≤ℤ y → pos (unsigned_abs (x *ℤ y)) ≡ x *ℤ y
    same (pos m) (pos n) h k = refl
    same (pos m) (negsuc n) h k = absurd (omega (arith, ints))
    same (negsuc m) y h k = absurd (omega (arith, ints))
