-- What an operator gives on two strided sets: the value and the classes of errors that are not excluded.
use Rattle.std.specs.Prelude.{◌≡◌, ◌⊎◌, ◌^◌, ℤ, pos, negsuc, ◌+ℤ◌, ◌-ℤ◌, ◌*ℤ◌, ◌<ℤ◌, Ok, true, false, if◌then◌else◌}
use Rattle.std.specs.Prelude as P
use Rattle.strided_dom.specs.Progression.{Progression, Has}
use Rattle.tm_numbers.specs.Divisors.{Divides}
use Rattle.transfer_int.specs.Rows.{InRows}
use Rattle.tm_cint.specs.IntTypes.{IsIn, is_signed, width_of, lo_of, hi_of}
use Rattle.tm_cint.specs.Conversions.{converted_value}
use Rattle.tm_cint.specs.Operators.{outcome, is_count}
use Rattle.tm_cint.specs.declared.Class.{Class}
use Rattle.tm_cint.specs.declared.Class.TheVariants.{Overflow, Shift, Div as DivByZero}
use Rattle.tm_cint.specs.declared.int_types.IntType.{IntType}
use Rattle.tm_cint.specs.declared.int_types.IntType.TheVariants.{Bool}
use Rattle.tm_cint.specs.declared.operators.BinOp.{BinOp}
use Rattle.tm_cint.specs.declared.operators.BinOp.TheVariants.{Add, Sub, Mul, Div, Rem, Shl, Shr, Lt, Le, Gt, Ge, Eq}
use Rattle.tm_cint.specs.declared.operators.BinOp.TheVariants.{Ne}

-- k times 2 to the power of the width
abbrev pub turns : IntType → ℤ → ℤ
turns t k = k *ℤ pos (2 ^ width_of t)

-- v is in the wrapping of R into the type: where R lies in the type's range moved by some turns, v moved by them is in
-- R; and v is congruent to the numbers of R modulo every divisor of 2^width modulo which these are congruent to one
-- another.
pub record IsWrapped (t : IntType) (R : ℤ → Type 0) (v : ℤ) : Type 0 where
  pub in_type : IsIn t v
  pub some : ℤ
  pub in_rows : R some
  pub congruent : (d : ℤ) → Divides d (pos (2 ^ width_of t)) → ((r : ℤ) → R r → Divides d (r -ℤ some))
      → Divides d (v -ℤ some)
  pub in_turn : (k : ℤ) → ((r : ℤ) → R r → IsIn t (r -ℤ turns t k)) → R (v +ℤ turns t k)

-- R met with the range of a signed type; an unsigned type wraps it.
pub record IsFitted (t : IntType) (R : ℤ → Type 0) (v : ℤ) : Type 0 where
  pub met : is_signed t ≡ true → R v × IsIn t v
  pub wrapped : is_signed t ≡ false → IsWrapped t R v

-- v is what the comparison gives for some members.
pub record IsTruth (op : BinOp) (t : IntType) (a b : Progression) (v : ℤ) : Type 0 where
  pub left : ℤ
  pub right : ℤ
  pub in_left : Has a left
  pub in_right : Has b right
  pub is : outcome op t left right ≡ Ok v

-- v is in the value of `a op b`.
abbrev pub IsValue : BinOp → IntType → Progression → Progression → ℤ → Type 0
IsValue Lt t a b v = IsTruth Lt t a b v
IsValue Le t a b v = IsTruth Le t a b v
IsValue Gt t a b v = IsTruth Gt t a b v
IsValue Ge t a b v = IsTruth Ge t a b v
IsValue Eq t a b v = IsTruth Eq t a b v
IsValue Ne t a b v = IsTruth Ne t a b v
IsValue op t a b v = IsFitted t (InRows op t a b) v

-- R of a signed type leaves the type's range.
pub record Leaves (op : BinOp) (t : IntType) (a b : Progression) : Type 0 where
  pub signed : is_signed t ≡ true
  pub number : ℤ
  pub in_rows : InRows op t a b number
  pub outside : IsIn t number → ⊥

-- The least value of a signed type may be divided by -1.
pub record HasLeastByMinusOne (t : IntType) (a b : Progression) : Type 0 where
  pub signed : is_signed t ≡ true
  pub least : Has a (lo_of t)
  pub minus_one : Has b (negsuc 0)

-- A divisor may be 0.
pub record HasZeroDivisor (a b : Progression) : Type 0 where
  pub dividend : ℤ
  pub in_left : Has a dividend
  pub zero_divisor : Has b (pos 0)

-- A count may lie outside 0 to the width less 1.
pub record HasBadCount (t : IntType) (a b : Progression) : Type 0 where
  pub left : ℤ
  pub right : ℤ
  pub in_left : Has a left
  pub in_right : Has b right
  pub bad : is_count t right ≡ false

-- A negative number may be shifted left in a signed type.
pub record ShiftsNegative (t : IntType) (a b : Progression) : Type 0 where
  pub signed : is_signed t ≡ true
  pub left : ℤ
  pub right : ℤ
  pub in_left : Has a left
  pub in_right : Has b right
  pub negative : left <ℤ pos 0

-- The operators whose result, in a signed type, overflows where the type does not hold it.
abbrev pub is_fitted : BinOp → P.Bool
is_fitted Add = true
is_fitted Sub = true
is_fitted Mul = true
is_fitted Div = true
is_fitted op = false

abbrev pub is_division : BinOp → P.Bool
is_division Div = true
is_division Rem = true
is_division op = false

abbrev pub is_shift : BinOp → P.Bool
is_shift Shl = true
is_shift Shr = true
is_shift op = false

abbrev pub MayOverflow : BinOp → IntType → Progression → Progression → Type 0
MayOverflow op t a b = ((is_fitted op ≡ true) × Leaves op t a b) ⊎ ((op ≡ Rem) × HasLeastByMinusOne t a b)

abbrev pub MayDivideByZero : BinOp → Progression → Progression → Type 0
MayDivideByZero op a b = (is_division op ≡ true) × HasZeroDivisor a b

abbrev pub MayShiftBadly : BinOp → IntType → Progression → Progression → Type 0
MayShiftBadly op t a b = (is_shift op ≡ true) × (HasBadCount t a b
    ⊎ ((op ≡ Shl) × (ShiftsNegative t a b ⊎ Leaves Shl t a b)))

-- The class of errors is not excluded.
abbrev pub MayFail : BinOp → IntType → Progression → Progression → Class → Type 0
MayFail op t a b Overflow = MayOverflow op t a b
MayFail op t a b DivByZero = MayDivideByZero op a b
MayFail op t a b Shift = MayShiftBadly op t a b
MayFail op t a b class = ⊥

-- v is in the value of the conversion: to `_Bool` 0 or 1, as some member gives it, else the wrapping.
abbrev pub IsConverted : IntType → Progression → ℤ → Type 0
IsConverted Bool a v = (x : ℤ) × (Has a x × (v ≡ converted_value x Bool))
IsConverted t a v = IsWrapped t (Has a) v

-- `~x` is this number less x (C99 6.5.3.3)
abbrev pub ones_of : IntType → ℤ
ones_of t = if is_signed t then negsuc 0 else hi_of t
