-- The rows: the class that holds an operator's results, from the classes that hold its operands.
use Rattle.std.specs.Prelude.{ℕ, ℤ, pos, ◌+ℤ◌, ◌-ℤ◌, ◌*ℤ◌, unsigned_abs, int_div}
use Rattle.congruence_dom.specs.declared.classes.Cong.{Cong}
use Rattle.tm_numbers.specs.Divisors.{int_gcd}
use Rattle.tm_numbers.specs.Powers.{power}

abbrev pub add_row : Cong → Cong → Cong
add_row a b = record { residue = a.residue +ℤ b.residue; modulus = int_gcd a.modulus b.modulus }

abbrev pub sub_row : Cong → Cong → Cong
sub_row a b = record { residue = a.residue -ℤ b.residue; modulus = int_gcd a.modulus b.modulus }

abbrev pub mul_row : Cong → Cong → Cong
mul_row a b = record {
  residue = a.residue *ℤ b.residue;
  modulus = int_gcd (int_gcd (a.modulus *ℤ b.modulus) (a.modulus *ℤ b.residue)) (b.modulus *ℤ a.residue);
}

-- a remainder differs from its dividend by a multiple of the divisor
abbrev pub rem_row : Cong → Cong → Cong
rem_row a b = record { residue = a.residue; modulus = int_gcd (int_gcd a.modulus b.modulus) b.residue }

-- by one divisor that divides residue and modulus
abbrev pub div_row : Cong → ℤ → Cong
div_row a b = record { residue = int_div a.residue b; modulus = int_div a.modulus (pos (unsigned_abs b)) }

-- by one count
abbrev pub shl_row : Cong → ℕ → Cong
shl_row a n = record { residue = a.residue *ℤ power n; modulus = a.modulus *ℤ power n }

-- by counts from n on
abbrev pub shl_from_row : Cong → ℕ → Cong
shl_from_row a n = record { residue = pos 0; modulus = int_gcd a.modulus a.residue *ℤ power n }

-- by one count, where its power of two divides residue and modulus
abbrev pub shr_row : Cong → ℕ → Cong
shr_row a n = div_row a (power n)
