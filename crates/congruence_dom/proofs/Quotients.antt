-- The rows of quotients by one divisor, and of shifts.
use Rattle.std.proofs.Common.{◌≡◌, ℕ, zero, suc, ◌+◌, ◌-◌, ◌*◌, ◌/◌, ◌^◌, ◌<◌, ◌≤◌, ℤ, pos, negsuc, neg_ℤ, ◌+ℤ◌, ◌-ℤ◌, ◌*ℤ◌, arith, refl, sym, ap, subst, ◌∙◌, ◌≢◌}
use Rattle.std.specs.Prelude.{unsigned_abs, int_div}
use Rattle.std.specs.Int.{int_shr}
use Rattle.std.proofs.Math.Nat.{div-eq_of_lt-le, div-mul_cancel}
use Rattle.std.proofs.lemmas.Int.{ints}
use Rattle.std.proofs.lemmas.Nat.{pow_pos, pow-add}
use Rattle.congruence_dom.specs.declared.classes.Cong.{Cong}
use Rattle.congruence_dom.specs.Class.{InClass}
use Rattle.tm_numbers.specs.Divisors.{Divides, int_gcd}
use Rattle.congruence_dom.specs.Laws.{DivGrows, DivHolds, ShlFromGrows, ShlFromHolds, ShlGrows, ShlHolds, ShrGrows, ShrHolds}
use Rattle.congruence_dom.specs.Rows.{shl_from_row, shr_row}
use Rattle.tm_numbers.specs.Powers.{power}
use Rattle.congruence_dom.proofs.Congruences.{within, within_modulus, within_residue}
use Rattle.tm_numbers.proofs.Divisibility.{divides_abs, divides_same, divides_zero, divides_add, divides_trans, divides_product, divides_scaled, quotient_by_abs, quotient_divides, quotient_sub, to_natural}
use Rattle.tm_numbers.proofs.Gcds.{is_greatest}
use Rattle.tm_numbers.proofs.Integers.{sub_mul}

-- ---- quotients

-- what divides a class's modulus and one of its numbers divides the others
divides_number : (m : ℤ) (a : Cong) (x y : ℤ) → Divides m a.modulus → Divides m y → Divides a.modulus (x -ℤ y) → Divides m x
divides_number m a x y h k i = divides_same m (whole x y) (divides_add m _ _ (divides_trans m a.modulus _ h i) k)
  where
    whole : (x y : ℤ) → (x -ℤ y) +ℤ y ≡ x
    whole x y = omega (arith, ints)

pub div_holds : DivHolds
div_holds a b x n h i =
    divides_same _ (sym (quotient_sub b x a.residue n (divides_number b a x a.residue h.1 h.0 i) h.0))
    (quotient_by_abs b a.modulus _ (quotient_divides b a.modulus (x -ℤ a.residue) n h.1 i))

abs_not_zero : (b : ℤ) → b ≢ pos 0 → pos (unsigned_abs b) ≢ pos 0
abs_not_zero b n e = n (omega (arith, ints))

pub div_grows : DivGrows
div_grows a c b n h w = (
  (divides_number b c a.residue c.residue h.1 h.0 (within_residue a c w), divides_trans b c.modulus _ h.1 (within_modulus a c w)),
  within _ _
      (quotient_divides (pos (unsigned_abs b)) c.modulus a.modulus (abs_not_zero b n) (divides_abs b _ h.1) (within_modulus a c w))
      (div_holds c b a.residue n h (within_residue a c w)),
)

-- ---- left shifts

pub shl_holds : ShlHolds
shl_holds a n x h = divides_same _ (sub_mul x a.residue (power n)) (divides_scaled a.modulus _ (power n) h)

pub shl_grows : ShlGrows
shl_grows a c n w = within _ _ (divides_scaled c.modulus _ (power n) (within_modulus a c w)) (shl_holds c n a.residue (within_residue a c w))

powers_divide : (m n : ℕ) → m ≤ n → Divides (power m) (power n)
powers_divide m n h = record { quotient = power (n - m); is = ap pos (ap (λ (k : ℕ). 2 ^ k) (rest m n h) ∙ pow-add 2 m (n - m)) }
  where
    rest : (m n : ℕ) → m ≤ n → n ≡ m + (n - m)
    rest m n h = omega arith

without_zero : (z : ℤ) → z ≡ z -ℤ pos 0
without_zero z = omega (arith, ints)

pub shl_from_holds : ShlFromHolds
shl_from_holds a least n x h i =
    let g = int_gcd a.modulus a.residue in
    let divisor = divides_number g a x a.residue (is_greatest.left a.modulus a.residue) (is_greatest.right a.modulus a.residue) i in
    divides_same _ (without_zero (x *ℤ power n)) (divides_product g (power least) x (power n) divisor (powers_divide least n h))

pub shl_from_grows : ShlFromGrows
shl_from_grows a c m n h w =
    let g = int_gcd c.modulus c.residue in
    let left = is_greatest.left c.modulus c.residue in
    let divisor = is_greatest.greatest g a.modulus a.residue
    (divides_trans g c.modulus _ left (within_modulus a c w))
    (divides_number g c a.residue c.residue left (is_greatest.right c.modulus c.residue) (within_residue a c w)) in
    within (shl_from_row a m) (shl_from_row c n)
    (divides_product g (power n) (int_gcd a.modulus a.residue) (power m) divisor (powers_divide n m h))
    (divides_same _ (without_zero (pos 0)) (divides_zero _))

-- ---- right shifts

one_below : (p a k : ℕ) → 0 < p → suc k * p ≡ suc a → a / p ≡ k
one_below p a k h e = div-eq_of_lt-le p (omega arith) (omega arith)

floor_of_multiple : (p a q : ℕ) → 0 < p → q * p ≡ suc a → negsuc (a / p) ≡ neg_ℤ (pos q)
floor_of_multiple p a zero h e = absurd (omega arith)
floor_of_multiple p a (suc k) h e = ap negsuc (one_below p a k h e)

-- an exact quotient is the same rounded down
exact_floor : (x : ℤ) (n : ℕ) → Divides (power n) x → int_shr x n ≡ int_div x (power n)
exact_floor (pos a) n h = refl
exact_floor (negsuc a) n h = floor_of_multiple (2 ^ n) a (suc a / 2 ^ n) (pow_pos n) (div-mul_cancel (2 ^ n) (to_natural (power n) (negsuc a) h))

pub power_not_zero : (n : ℕ) → power n ≢ pos 0
power_not_zero n e = omega (arith, ap unsigned_abs e, pow_pos n)

pub shr_holds : ShrHolds
shr_holds a n x h i =
    subst (λ (t : ℤ). InClass (shr_row a n) t) (sym (exact_floor x n (divides_number (power n) a x a.residue h.1 h.0 i)))
    (div_holds a (power n) x (power_not_zero n) h i)

pub shr_grows : ShrGrows
shr_grows a c n h w = div_grows a c (power n) (power_not_zero n) h w
