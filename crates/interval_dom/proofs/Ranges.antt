-- The code's integers have 128 bits, and hold all that the rows make.
use Rattle.std.proofs.Common.{◌≡◌, ℕ, ◌+◌, ◌-◌, ◌*◌, ◌%◌, ◌^◌, ◌<◌, ◌≤◌, ℤ, pos, negsuc, ◌-ℤ◌, ◌*ℤ◌, ◌≤ℤ◌, ◌<ℤ◌, FitsSigned, to_z, of_z, arith, ap, ◌∙◌, refl}
use Rattle.std.specs.Prelude.{unsigned_abs}
use Rattle.std.specs.Int.{w128, int_min, int_max}
use Rattle.std.proofs.Math.Pow.{pow_mono}
use Rattle.std.proofs.lemmas.Nat.{mul-le, shl_whole, shl_below}
use Rattle.std.proofs.lemmas.Int.{ints, to_z-of_z, to_z_pos, fits_signed_mul}
use Rattle.interval_dom.specs.declared.intervals.Interval.{Interval}
use Rattle.interval_dom.specs.Interval.{Span, IsOrdered, InInterval, HasTypeValues}
use Rattle.interval_dom.specs.Rows.{mul_row, shift_left}
use Rattle.interval_dom.proofs.Corners.{same_ends, span_from, spanned_within}
use Rattle.interval_dom.proofs.Products.{mul_holds}

pub lo_fits : (a : Interval) → HasTypeValues a → FitsSigned w128 a.lo
lo_fits a h = omega (arith, ints, h.low, h.high, a.ordered)

pub hi_fits : (a : Interval) → HasTypeValues a → FitsSigned w128 a.hi
hi_fits a h = omega (arith, ints, h.low, h.high, a.ordered)

pub code_product : (x y : ℤ) → FitsSigned w128 x → FitsSigned w128 y → unsigned_abs x ≤ 2 ^ 63 → unsigned_abs y ≤ 2 ^ 63
    → to_z w128 (of_z w128 (to_z w128 (of_z w128 x) *ℤ to_z w128 (of_z w128 y))) ≡ x *ℤ y
code_product x y f g h k =
    ap (λ (z : ℤ). to_z w128 (of_z w128 (z *ℤ to_z w128 (of_z w128 y)))) (to_z-of_z w128 x f)
    ∙ ap (λ (z : ℤ). to_z w128 (of_z w128 (x *ℤ z))) (to_z-of_z w128 y g)
    ∙ to_z-of_z w128 (x *ℤ y) (fits_signed_mul w128 x y (2 ^ 63) (2 ^ 63) h k (omega arith))

-- numbers that are not negative, multiplied as naturals
pub natural_product : (x y : ℤ) → FitsSigned w128 x → FitsSigned w128 y → pos 0 ≤ℤ x → pos 0 ≤ℤ y
    → pos (unsigned_abs (to_z w128 (of_z w128 x)) * unsigned_abs (to_z w128 (of_z w128 y))) ≡ x *ℤ y
natural_product x y f g h k =
    ap (λ (z : ℤ). pos (unsigned_abs z * unsigned_abs (to_z w128 (of_z w128 y)))) (to_z-of_z w128 x f)
    ∙ ap (λ (z : ℤ). pos (unsigned_abs x * unsigned_abs z)) (to_z-of_z w128 y g)
    ∙ same x y h k
  where
    same : (x y : ℤ) → pos 0 ≤ℤ x → pos 0 ≤ℤ y → pos (unsigned_abs x * unsigned_abs y) ≡ x *ℤ y
    same (pos m) (pos n) h k = refl
    same (pos m) (negsuc n) h k = absurd (omega (arith, ints))
    same (negsuc m) y h k = absurd (omega (arith, ints))

-- of factors that are not negative, the least ends give the least product, and the greatest the greatest
products_rise : (a b c d : ℤ) → pos 0 ≤ℤ a → pos 0 ≤ℤ c → a ≤ℤ b → c ≤ℤ d → (a *ℤ c) ≤ℤ (b *ℤ d)
products_rise (pos a) (pos b) (pos c) (pos d) s t h k = let j : a * c ≤ b * d = mul-le a c b d (omega (arith, ints)) (omega (arith, ints)) in omega (arith, ints)
products_rise (pos a) (pos b) (pos c) (negsuc d) s t h k = absurd (omega (arith, ints))
products_rise (pos a) (pos b) (negsuc c) d s t h k = absurd (omega (arith, ints))
products_rise (pos a) (negsuc b) c d s t h k = absurd (omega (arith, ints))
products_rise (negsuc a) b c d s t h k = absurd (omega (arith, ints))

≤_refl : (a : ℤ) → a ≤ℤ a
≤_refl a = omega (arith, ints)

≤_trans : (a b c : ℤ) → a ≤ℤ b → b ≤ℤ c → a ≤ℤ c
≤_trans a b c h k = omega (arith, ints)

pub natural_row : (a b : Span) → IsOrdered a → IsOrdered b → pos 0 ≤ℤ a.lo → pos 0 ≤ℤ b.lo → span_from (a.lo *ℤ b.lo) (a.hi *ℤ b.hi) ≡ mul_row a b
natural_row a b o p s t =
    let low_a = record_of a.lo a.lo a.hi (≤_refl a.lo) o in
    let high_a = record_of a.lo a.hi a.hi o (≤_refl a.hi) in
    let low_b = record_of b.lo b.lo b.hi (≤_refl b.lo) p in
    let high_b = record_of b.lo b.hi b.hi p (≤_refl b.hi) in
    same_ends
    (record { low = (mul_holds a b _ _ tt tt low_a low_b).low; high = (mul_holds a b _ _ tt tt high_a high_b).high })
    (spanned_within _ _ _ _ _
    (record { low = ≤_refl _; high = products_rise _ _ _ _ s t o p })
    (record { low = products_rise _ _ _ _ s t (≤_refl a.lo) p; high = products_rise _ _ _ _ s (≤_trans _ _ _ t p) o (≤_refl b.hi) })
    (record { low = products_rise _ _ _ _ s t o (≤_refl b.lo); high = products_rise _ _ _ _ (≤_trans _ _ _ s o) t (≤_refl a.hi) p })
    (record { low = products_rise _ _ _ _ s t o p; high = ≤_refl _ }))
  where
    record_of : (l x h : ℤ) → l ≤ℤ x → x ≤ℤ h → InInterval (span_from l h) x
    record_of l x h p q = record { low = p; high = q }

pub code_shift_left : (x n : ℤ) → pos 0 ≤ℤ x → x <ℤ pos (2 ^ 64) → pos 0 ≤ℤ n → n <ℤ pos 64
    → to_z w128 (of_z w128 x * 2 ^ unsigned_abs (to_z w128 (of_z w128 n)) % 2 ^ 128) ≡ shift_left x n
code_shift_left (pos m) (pos k) p q r s =
    let few : k < 64 = omega (arith, ints) in
    let small : m < 2 ^ 64 = omega (arith, ints) in
    let most : 64 + k ≤ 127 = omega arith in
    let width : 2 ^ (64 + k) ≤ 2 ^ 127 = pow_mono most in
    ap (λ (z : ℤ). to_z w128 (m * 2 ^ unsigned_abs z % 2 ^ 128)) (to_z_pos w128 k (omega arith))
    ∙ ap (to_z w128) (shl_whole m 64 k 128 small (omega arith))
    ∙ to_z_pos w128 (m * 2 ^ k) (omega (arith, shl_below m 64 k small))
code_shift_left (pos m) (negsuc k) p q r s = absurd (omega (arith, ints))
code_shift_left (negsuc m) n p q r s = absurd (omega (arith, ints))

pub shifted_back : (p x n : ℤ) → FitsSigned w128 x → FitsSigned w128 n → p ≡ shift_left (to_z w128 (of_z w128 x)) (to_z w128 (of_z w128 n)) → p ≡ shift_left x n
shifted_back p x n f g e = e ∙ ap (λ (z : ℤ). shift_left z (to_z w128 (of_z w128 n))) (to_z-of_z w128 x f) ∙ ap (λ (z : ℤ). shift_left x z) (to_z-of_z w128 n g)

-- ---- least and greatest numbers of the code's values

pub back : (z : ℤ) → FitsSigned w128 z → to_z w128 (of_z w128 z) ≡ z
back z f = to_z-of_z w128 z f

pub min_of : {p q u v r : ℤ} → r ≡ int_min u v → u ≡ p → v ≡ q → r ≡ int_min p q
min_of {p} {q} {u} {v} e f g = e ∙ ap (λ (z : ℤ). int_min z v) f ∙ ap (λ (z : ℤ). int_min p z) g

pub max_of : {p q u v r : ℤ} → r ≡ int_max u v → u ≡ p → v ≡ q → r ≡ int_max p q
max_of {p} {q} {u} {v} e f g = e ∙ ap (λ (z : ℤ). int_max z v) f ∙ ap (λ (z : ℤ). int_max p z) g

-- a value of the code that is doubled, and lowered by one
pub ones_back : (p n : ℕ) → n ≡ 2 * p → 0 < p → p < 2 ^ 64 → to_z w128 (of_z w128 (to_z w128 (2 * p % 2 ^ 128) -ℤ pos 1)) ≡ pos (n - 1)
ones_back p n e h k = omega (arith, ints)

pub between_back : (p q u v : ℤ) → FitsSigned w128 p → FitsSigned w128 q → p ≡ u → q ≡ v → u ≤ℤ v → to_z w128 (of_z w128 p) ≤ℤ to_z w128 (of_z w128 q)
between_back p q u v f g e h k = omega (arith, ints)
