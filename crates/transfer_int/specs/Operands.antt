-- A strided set as an operand of the rows.
use Rattle.std.specs.Prelude.{◌≡◌, ◌≢◌, ℤ, pos, ◌≤ℤ◌, true}
use Rattle.strided_dom.specs.Progression.{Progression, Has, first_of, last_of, stride_of}
use Rattle.interval_dom.specs.Interval.{Span}
use Rattle.congruence_dom.specs.declared.classes.Cong.{Cong}
use Rattle.tm_cint.specs.IntTypes.{IsIn}
use Rattle.tm_cint.specs.Operators.{is_count, IsRightOperand}
use Rattle.tm_cint.specs.declared.int_types.IntType.{IntType}
use Rattle.tm_cint.specs.declared.operators.BinOp.{BinOp}

-- Every member is a value of the type.
pub record AreValues (t : IntType) (a : Progression) : Type 0 where
  pub all : (x : ℤ) → Has a x → IsIn t x

-- Every member may stand at the right of the operator.
pub record AreRightOperands (op : BinOp) (t : IntType) (b : Progression) : Type 0 where
  pub all : (y : ℤ) → Has b y → IsRightOperand op t y

-- From the least to the greatest member.
abbrev pub span_of_set : Progression → Span
span_of_set a = record { lo = first_of a; hi = last_of a }

-- The numbers that are congruent to the members modulo the stride.
abbrev pub class_of_set : Progression → Cong
class_of_set a = record { residue = first_of a; modulus = pos (stride_of a) }

-- y is a member that can divide.
pub record IsDivisor (b : Progression) (y : ℤ) : Type 0 where
  pub member : Has b y
  pub not_zero : y ≢ pos 0

-- x is a member that is not negative: a negative one of a signed type may not be shifted left (C99 6.5.7), and an
-- unsigned type has none.
pub record IsShifted (a : Progression) (x : ℤ) : Type 0 where
  pub member : Has a x
  pub not_negative : pos 0 ≤ℤ x

-- n is a member that is a count of a shift of the type.
pub record IsCount (t : IntType) (b : Progression) (n : ℤ) : Type 0 where
  pub member : Has b n
  pub count : is_count t n ≡ true

-- r is the result of two numbers, of which the one has the property P, the other Q.
pub record IsResult (op : ℤ → ℤ → ℤ) (P Q : ℤ → Type 0) (r : ℤ) : Type 0 where
  pub left : ℤ
  pub right : ℤ
  pub in_left : P left
  pub in_right : Q right
  pub is : r ≡ op left right

-- v lies in the least interval with all numbers that have the property P, of which there are some.
pub record IsBetween (P : ℤ → Type 0) (v : ℤ) : Type 0 where
  pub low : ℤ
  pub high : ℤ
  pub low_is : P low
  pub high_is : P high
  pub from : low ≤ℤ v
  pub to : v ≤ℤ high
