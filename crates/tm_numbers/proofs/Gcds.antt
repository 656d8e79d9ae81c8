-- Euclid's remainders give the greatest common divisor.
use Rattle.std.proofs.Common.{◌≡◌, ℕ, zero, suc, ◌%◌, ◌<◌, ◌≤◌, Bool, true, false, nat_eq, arith, refl}
use Rattle.std.specs.Prelude.{if◌then◌else◌, unsigned_abs}
use Rattle.std.specs.Int.{IsGcd}
use Rattle.std.proofs.lemmas.Nat.{mod_below}
use Rattle.std.proofs.lemmas.Nat.Gcd.{IsGcd-from_zero, IsGcd-from_mod, same_from_IsGcd, le_of_dvd}
use Rattle.tm_numbers.specs.Divisors.{gcd, gcd_within, int_gcd}
use Rattle.tm_numbers.specs.Divisors.{IsGreatestDivisor}
use Rattle.tm_numbers.proofs.Divisibility.{divides_from_abs, from_natural, to_natural}

is_zero : (n : ℕ) → nat_eq n 0 ≡ true → n ≡ 0
is_zero n e = grind arith

not_zero : (n : ℕ) → nat_eq n 0 ≡ false → 0 < n
not_zero n e = grind arith

one_step : (t : Bool) (a b g : ℕ) → nat_eq b 0 ≡ t → (nat_eq b 0 ≡ false → IsGcd b (a % b) g) → IsGcd a b (if t then a else g)
one_step true a b g e f = IsGcd-from_zero a b (is_zero b e)
one_step false a b g e f = IsGcd-from_mod a b g (f e)

within_is : (most a b : ℕ) → b ≤ most → IsGcd a b (gcd_within most a b)
within_is zero a b h = IsGcd-from_zero a b (omega arith)
within_is (suc most) a b h = one_step (nat_eq b 0) a b (gcd_within most b (a % b)) refl (λ e.
    let below = mod_below a b (not_zero b e) in
    let less : a % b ≤ most = omega arith in
    within_is most b (a % b) less)

pub gcd_is : (a b : ℕ) → IsGcd a b (gcd a b)
unfolding gcd
gcd_is a b = within_is b a b (omega arith)

pub gcd-zero : (a : ℕ) → gcd a 0 ≡ a
gcd-zero a = same_from_IsGcd a 0 _ _ (gcd_is a 0) (IsGcd-from_zero a 0 refl)

pub gcd_mod : (a b : ℕ) → gcd b (a % b) ≡ gcd a b
gcd_mod a b = same_from_IsGcd a b _ _ (IsGcd-from_mod a b _ (gcd_is b (a % b))) (gcd_is a b)

-- it is no greater than a bound of both
pub gcd_bound : (a b t : ℕ) → a ≤ t → b ≤ t → gcd a b ≤ t
gcd_bound zero zero t h k = omega (arith, gcd-zero 0)
gcd_bound zero (suc b) t h k = omega (arith, le_of_dvd {n = suc b} (omega arith) (gcd_is zero (suc b)).1)
gcd_bound (suc a) b t h k = omega (arith, le_of_dvd {n = suc a} (omega arith) (gcd_is (suc a) b).0)

-- nor than a number above 0 that it divides
pub gcd_below_left : (a b : ℕ) → 0 < a → gcd a b ≤ a
gcd_below_left a b h = le_of_dvd h (gcd_is a b).0

pub gcd_below_right : (a b : ℕ) → 0 < b → gcd a b ≤ b
gcd_below_right a b h = le_of_dvd h (gcd_is a b).1

pub is_greatest : IsGreatestDivisor
is_greatest = record {
  left = λ a b. from_natural _ a (gcd_is (unsigned_abs a) (unsigned_abs b)).0;
  right = λ a b. from_natural _ b (gcd_is (unsigned_abs a) (unsigned_abs b)).1;
  greatest = λ d a b h k. divides_from_abs d _ (from_natural _ (int_gcd a b) ((gcd_is (unsigned_abs a) (unsigned_abs b)).2 _ (to_natural d a h) (to_natural d b k)));
}
