-- Divisors of integers, and the greatest common one.
use Rattle.std.specs.Prelude.{◌≡◌, ◌≢◌, ◌↔◌, ℕ, zero, suc, ◌%◌, ◌==◌, if◌then◌else◌, ℤ, pos, ◌*ℤ◌, int_rem}
use Rattle.std.specs.Prelude.{unsigned_abs}

-- z is a multiple of m; of 0 that is 0 alone
pub record Divides (m z : ℤ) : Type 0 where
  pub quotient : ℤ
  pub is : z ≡ m *ℤ quotient

-- Euclid's remainders, at most as many as the first number says
abbrev pub gcd_within : ℕ → ℕ → ℕ → ℕ
gcd_within zero a b = a
gcd_within (suc most) a b = if b == 0 then a else gcd_within most b (a % b)

-- the greatest common divisor of two naturals; each is a remainder of the one before, so b of them are enough
unfoldable pub gcd : ℕ → ℕ → ℕ
gcd a b = gcd_within b a b

-- that of two integers: not negative, and 0 of 0 and 0
abbrev pub int_gcd : ℤ → ℤ → ℤ
int_gcd a b = pos (gcd (unsigned_abs a) (unsigned_abs b))

-- it divides both numbers, and whatever divides both divides it
pub record IsGreatestDivisor : Type 0 where
  pub left : (a b : ℤ) → Divides (int_gcd a b) a
  pub right : (a b : ℤ) → Divides (int_gcd a b) b
  pub greatest : (d a b : ℤ) → Divides d a → Divides d b → Divides d (int_gcd a b)

-- a number other than 0 divides exactly where the remainder is 0
abbrev pub IsByRemainder : Type 0
IsByRemainder = (b z : ℤ) → b ≢ pos 0 → (int_rem z b ≡ pos 0) ↔ Divides b z
