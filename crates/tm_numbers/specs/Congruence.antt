-- Congruence of integers.
use Rattle.std.specs.Prelude.{◌≡◌, ◌↔◌, ℕ, ◌*◌, ℤ, pos, ◌+ℤ◌, ◌-ℤ◌}
use Rattle.tm_numbers.specs.Divisors.{Divides}

-- v and w are congruent modulo m: they become equal when multiples of m are added. Modulo 0 they are equal.
pub record IsCongruent (m : ℕ) (v w : ℤ) : Type 0 where
  pub left : ℕ
  pub right : ℕ
  pub same : v +ℤ pos (left * m) ≡ w +ℤ pos (right * m)

-- numbers are congruent exactly where the modulus divides what they differ by
abbrev pub IsByDivision : Type 0
IsByDivision = (m : ℕ) (v w : ℤ) → IsCongruent m v w ↔ Divides (pos m) (v -ℤ w)
