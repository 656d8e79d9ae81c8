-- Values of C's types lie well inside 128 bits, and so do their sums, products and quotients.
use Rattle.std.proofs.Common.{◌≡◌, ℕ, suc, ◌/◌, ◌^◌, ◌<◌, ◌≤◌, ℤ, pos, negsuc, ◌+ℤ◌, ◌-ℤ◌, ◌*ℤ◌, neg_ℤ, ◌≤ℤ◌, zero, ◌&&◌, true, false, lit<, lit≤, arith, refl}
use Rattle.std.proofs.lemmas.Int.{ints, fits_signed_mul, fits_signed_from_abs}
use Rattle.std.specs.Int.{w128}
use Rattle.std.specs.Int.{cast_unsigned}
use Rattle.std.specs.Int.RustNames.{FitsSigned, int_div, int_rem, unsigned_abs, int_le, int_lt}
use Rattle.std.proofs.Math.Nat.{div-le_self, lt_of_le_of_lt}
use Rattle.std.proofs.Math.Pow.{pow_mono}
use Rattle.std.proofs.lemmas.Bool.Decides.{nat_tests}
use lib.Signed.{mag_rem}
use Rattle.tm_cint.specs.IntTypes.{IsIn, is_signed, width_of}
use Rattle.tm_cint.specs.Conversions.{is_zero}
use Rattle.tm_cint.specs.Operators.{is_count, shifted_left, fitted}
use Rattle.tm_cint.specs.declared.Class.TheVariants.{Shift}
use Rattle.tm_cint.specs.declared.int_types.IntType.{IntType}
use Rattle.tm_cint.specs.declared.int_types.IntType.TheVariants.{Bool, Char, UChar, Short, UShort, Int, UInt, Long, ULong, LLong, ULLong}

-- v lies in one of the two types of 64 bits
pub record IsWide (v : ℤ) : Type 0 where
  pub at_least : negsuc 9223372036854775807 ≤ℤ v
  pub at_most : v ≤ℤ pos 18446744073709551615

pub wide : (t : IntType) (v : ℤ) → IsIn t v → IsWide v
wide Bool v h = record { at_least = omega (arith, ints); at_most = omega (arith, ints) }
wide Char v h = record { at_least = omega (arith, ints); at_most = omega (arith, ints) }
wide UChar v h = record { at_least = omega (arith, ints); at_most = omega (arith, ints) }
wide Short v h = record { at_least = omega (arith, ints); at_most = omega (arith, ints) }
wide UShort v h = record { at_least = omega (arith, ints); at_most = omega (arith, ints) }
wide Int v h = record { at_least = omega (arith, ints); at_most = omega (arith, ints) }
wide UInt v h = record { at_least = omega (arith, ints); at_most = omega (arith, ints) }
wide Long v h = record { at_least = omega (arith, ints); at_most = omega (arith, ints) }
wide ULong v h = record { at_least = omega (arith, ints); at_most = omega (arith, ints) }
wide LLong v h = record { at_least = omega (arith, ints); at_most = omega (arith, ints) }
wide ULLong v h = record { at_least = omega (arith, ints); at_most = omega (arith, ints) }

pub sum_fits : (a b : ℤ) → IsWide a → IsWide b → FitsSigned w128 (a +ℤ b)
sum_fits a b h k = omega (arith, ints)

pub difference_fits : (a b : ℤ) → IsWide a → IsWide b → FitsSigned w128 (a -ℤ b)
difference_fits a b h k = omega (arith, ints)

abs_neg : (n m : ℕ) → n ≤ m → unsigned_abs (neg_ℤ (pos n)) ≤ m
abs_neg n m h = omega (arith, ints)

pub int_div_at_most : (a b : ℤ) → unsigned_abs (int_div a b) ≤ unsigned_abs a
int_div_at_most (pos a) (pos b) = div-le_self a b
int_div_at_most (pos a) (negsuc b) = abs_neg (a / suc b) a (div-le_self a (suc b))
int_div_at_most (negsuc a) (pos b) = abs_neg (suc a / b) (suc a) (div-le_self (suc a) b)
int_div_at_most (negsuc a) (negsuc b) = div-le_self (suc a) (suc b)

pub abs_wide : (a : ℤ) → IsWide a → unsigned_abs a ≤ 18446744073709551615
abs_wide a h = omega (arith, ints)

pub quotient_fits : (a b : ℤ) → IsWide a → FitsSigned w128 (int_div a b)
quotient_fits a b h =
    let below : unsigned_abs (int_div a b) < 170141183460469231731687303715884105728 = omega (arith, int_div_at_most a b, abs_wide a h) in
    fits_signed_from_abs w128 (int_div a b) below

pub remainder_fits : (a b : ℤ) → FitsSigned w128 a → FitsSigned w128 (int_rem a b)
remainder_fits a b h = record { sfits = lt_of_le_of_lt (mag_rem a b) h.sfits }

abs_signed : (t : IntType) (v : ℤ) → is_signed t ≡ true → IsIn t v → unsigned_abs v ≤ 9223372036854775808
abs_signed Bool v e h = absurd cc
abs_signed Char v e h = omega (arith, ints)
abs_signed UChar v e h = absurd cc
abs_signed Short v e h = omega (arith, ints)
abs_signed UShort v e h = absurd cc
abs_signed Int v e h = omega (arith, ints)
abs_signed UInt v e h = absurd cc
abs_signed Long v e h = omega (arith, ints)
abs_signed ULong v e h = absurd cc
abs_signed LLong v e h = omega (arith, ints)
abs_signed ULLong v e h = absurd cc

pub product_fits : (t : IntType) (a b : ℤ) → is_signed t ≡ true → IsIn t a → IsIn t b → FitsSigned w128 (a *ℤ b)
product_fits t a b e h k = fits_signed_mul w128 a b 9223372036854775808 9223372036854775808 (abs_signed t a e h) (abs_signed t b e k) (lit< tt)

width_at_most : (t : IntType) → width_of t ≤ 64
width_at_most Bool = lit≤ tt
width_at_most Char = lit≤ tt
width_at_most UChar = lit≤ tt
width_at_most Short = lit≤ tt
width_at_most UShort = lit≤ tt
width_at_most Int = lit≤ tt
width_at_most UInt = lit≤ tt
width_at_most Long = lit≤ tt
width_at_most ULong = lit≤ tt
width_at_most LLong = lit≤ tt
width_at_most ULLong = lit≤ tt

count_below : (w : ℕ) (b : ℤ) → (int_le (pos 0) b && int_lt b (pos w)) ≡ true → w ≤ 64 → unsigned_abs b ≤ 63
count_below w (pos b) e h = grind (arith, nat_tests)
count_below w (negsuc b) e h = absurd cc

pub power_at_most : (t : IntType) (b : ℤ) → is_count t b ≡ true → 2 ^ unsigned_abs b ≤ 9223372036854775808
power_at_most t b e = pow_mono (count_below (width_of t) b e (width_at_most t))

pub shifted_fits : (t : IntType) (a b : ℤ) → IsWide a → is_count t b ≡ true → int_le (pos 0) a ≡ true → FitsSigned w128 (a *ℤ pos (2 ^ unsigned_abs b))
shifted_fits t a b h e k = fits_signed_mul w128 a (pos (2 ^ unsigned_abs b)) 18446744073709551615 9223372036854775808 (abs_wide a h) (power_at_most t b e) (lit< tt)

-- the cases of the definition of `<<`
pub shifted_left-shifts : (t : IntType) (a b : ℤ) → is_count t b ≡ true → int_le (pos 0) a ≡ true → shifted_left t a b ≡ fitted Shift t (a *ℤ pos (2 ^ unsigned_abs b))
shifted_left-shifts t a b e k = simp (e, k)

pub nonzero : (b : ℤ) → FitsSigned w128 b → (cast_unsigned w128 b ≡ 0 → ⊥) → is_zero b ≡ false
nonzero (pos zero) h n = absurd (n refl)
nonzero (pos (suc b)) h n = refl
nonzero (negsuc b) h n = refl
