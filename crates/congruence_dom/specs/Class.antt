-- Congruence classes of integers: what they hold, their order, and the ranges in which the calls take them.
use Rattle.std.specs.Prelude.{◌^◌, ℤ, pos, neg_ℤ, ◌+ℤ◌, ◌-ℤ◌, ◌≤ℤ◌, ◌<ℤ◌}
use Rattle.tm_numbers.specs.Divisors.{Divides}
use Rattle.congruence_dom.specs.declared.classes.Cong.{Cong}
use Rattle.congruence_dom.specs.declared.classes.CongU.{CongU}

-- x is congruent to the residue; modulo 0 that is the residue alone
abbrev pub InClass : Cong → ℤ → Type 0
InClass c x = Divides c.modulus (x -ℤ c.residue)

-- every number of a is one of b
abbrev pub IsSubclass : Cong → Cong → Type 0
IsSubclass a b = (x : ℤ) → InClass a x → InClass b x

-- the same class, with numbers of signed types
abbrev pub class_of_unsigned : CongU → Cong
class_of_unsigned u = record { residue = pos u.residue; modulus = pos u.modulus }

-- the residue is a value of C types of at most 64 bits, and the modulus a difference of such values
pub record IsTypeClass (a : Cong) : Type 0 where
  pub low : neg_ℤ (pos (2 ^ 63)) ≤ℤ a.residue
  pub high : a.residue <ℤ pos (2 ^ 64)
  pub modulus_low : pos 0 ≤ℤ a.modulus
  pub modulus_high : a.modulus <ℤ pos (2 ^ 64)

-- the residue is a value of the signed type of 64 bits, and so is the next number of the class
pub record IsSignedClass (a : Cong) : Type 0 where
  pub low : neg_ℤ (pos (2 ^ 63)) ≤ℤ a.residue
  pub high : (a.residue +ℤ a.modulus) <ℤ pos (2 ^ 63)
  pub modulus_low : pos 0 ≤ℤ a.modulus

-- residue and modulus are values of the unsigned type of 64 bits
pub record IsUnsignedClass (a : Cong) : Type 0 where
  pub low : pos 0 ≤ℤ a.residue
  pub high : a.residue <ℤ pos (2 ^ 64)
  pub modulus_low : pos 0 ≤ℤ a.modulus
  pub modulus_high : a.modulus <ℤ pos (2 ^ 64)
