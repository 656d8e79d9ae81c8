-- The wrapping of a strided set in the words of the table of transfers.
use Rattle.std.specs.Prelude.{◌⊎◌, ◌^◌, ℤ, pos, ◌+ℤ◌, ◌-ℤ◌}
use Rattle.strided_dom.specs.Progression.{Progression, Has, first_of, stride_of}
use Rattle.tm_numbers.specs.Divisors.{int_gcd}
use Rattle.congruence_dom.specs.Class.{InClass}
use Rattle.tm_cint.specs.IntTypes.{IsIn, width_of}
use Rattle.tm_cint.specs.declared.int_types.IntType.{IntType}
use Rattle.transfer_int.specs.Values.{turns}

-- All of the set lies in the type's range moved by k turns of 2^width.
abbrev pub AreInTurn : IntType → Progression → ℤ → Type 0
AreInTurn t r k = (x : ℤ) → Has r x → IsIn t (x -ℤ turns t k)

-- v moved by turns, by which the type's range is moved to hold all of the set, is in the set.
pub record IsInTurn (t : IntType) (r : Progression) (v : ℤ) : Type 0 where
  pub turn : ℤ
  pub all : AreInTurn t r turn
  pub moved : Has r (v +ℤ turns t turn)

-- No turn holds all of the set, and v is congruent to its members modulo the greatest common divisor of its stride and
-- 2^width.
pub record IsInNoTurn (t : IntType) (r : Progression) (v : ℤ) : Type 0 where
  pub none : (k : ℤ) → ¬ AreInTurn t r k
  pub class : InClass (record { residue = first_of r; modulus = int_gcd (pos (stride_of r)) (pos (2 ^ width_of t)) }) v

-- The set has a member, v is a value of the type, and one or the other holds.
pub record IsWrappedSet (t : IntType) (r : Progression) (v : ℤ) : Type 0 where
  pub some : Has r (first_of r)
  pub in_type : IsIn t v
  pub either : IsInTurn t r v ⊎ IsInNoTurn t r v
