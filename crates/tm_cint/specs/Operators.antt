-- The binary operators on values of one type (C99 6.5.5 to 6.5.12).
use Rattle.std.specs.Prelude.{ℕ, ◌^◌, ◌&&◌, ℤ, pos, ◌+ℤ◌, ◌-ℤ◌, ◌*ℤ◌, int_lt, int_le, int_div, int_rem, unsigned_abs}
use Rattle.std.specs.Prelude.{bit_and, bit_or, bit_xor, Result, Ok, Err, if◌then◌else◌, not, ⊤}
use Rattle.std.specs.Prelude as P
use Rattle.std.specs.Int.{int_shr}
use Rattle.tm_cint.specs.IntTypes.{width_of, is_signed, IsIn, is_in}
use Rattle.tm_cint.specs.Conversions.{truth, is_zero, residue, value_of, wrapped}
use Rattle.tm_cint.specs.declared.Class.{Class}
use Rattle.tm_cint.specs.declared.Class.TheVariants.{Overflow, Shift, Div as DivByZero}
use Rattle.tm_cint.specs.declared.int_types.IntType.{IntType}
use Rattle.tm_cint.specs.declared.int_types.IntType.TheVariants.{Int}
use Rattle.tm_cint.specs.declared.operators.BinOp.{BinOp}
use Rattle.tm_cint.specs.declared.operators.BinOp.TheVariants.{Add, Sub, Mul, Div, Rem, Shl, Shr, And, Or, Xor, Lt, Le}
use Rattle.tm_cint.specs.declared.operators.BinOp.TheVariants.{Gt, Ge, Eq, Ne}

-- the answer where z is the mathematical result: an unsigned type takes it modulo 2 to the power of the width, a signed
-- type that does not hold it has an error of this class (C99 6.2.5, 6.5)
abbrev pub fitted : Class → IntType → ℤ → Result ℤ Class
fitted class t z = if is_signed t then (if is_in t z then Ok z else Err class) else Ok (wrapped t z)

-- `a / b`, truncated toward zero (C99 6.5.5)
abbrev pub quotient : IntType → ℤ → ℤ → Result ℤ Class
quotient t a b = if is_zero b then Err DivByZero else fitted Overflow t (int_div a b)

-- `a % b`, with the sign of a; it is defined only where the type has `a / b` (C99 6.5.5)
abbrev pub remainder : IntType → ℤ → ℤ → Result ℤ Class
remainder t a b =
    if is_zero b then Err DivByZero else (if is_in t (int_div a b) then Ok (int_rem a b) else Err Overflow)

-- b is a count by which a value of the type can be shifted: from 0 to the width less 1 (C99 6.5.7)
abbrev pub is_count : IntType → ℤ → P.Bool
is_count t b = int_le (pos 0) b && int_lt b (pos (width_of t))

-- `a << b` (C99 6.5.7)
abbrev pub shifted_left : IntType → ℤ → ℤ → Result ℤ Class
shifted_left t a b =
    if is_count t b && int_le (pos 0) a then fitted Shift t (a *ℤ pos (2 ^ unsigned_abs b)) else Err Shift

-- `a >> b`, rounded down, also of a negative value (C99 6.5.7)
abbrev pub shifted_right : IntType → ℤ → ℤ → Result ℤ Class
shifted_right t a b = if is_count t b then Ok (int_shr a (unsigned_abs b)) else Err Shift

-- an operation on the bits of the type (C99 6.5.10 to 6.5.12)
abbrev pub bitwise : (ℕ → ℕ → ℕ) → IntType → ℤ → ℤ → ℤ
bitwise f t a b = value_of t (f (residue (width_of t) a) (residue (width_of t) b))

-- neither number is below the other
abbrev pub is_same : ℤ → ℤ → P.Bool
is_same a b = int_le a b && int_le b a

-- what an operator gives at two values, where the type is the common type of both, or for a shift the promoted type of
-- the left one
abbrev pub outcome : BinOp → IntType → ℤ → ℤ → Result ℤ Class
outcome Add t a b = fitted Overflow t (a +ℤ b)
outcome Sub t a b = fitted Overflow t (a -ℤ b)
outcome Mul t a b = fitted Overflow t (a *ℤ b)
outcome Div t a b = quotient t a b
outcome Rem t a b = remainder t a b
outcome Shl t a b = shifted_left t a b
outcome Shr t a b = shifted_right t a b
outcome And t a b = Ok (bitwise bit_and t a b)
outcome Or t a b = Ok (bitwise bit_or t a b)
outcome Xor t a b = Ok (bitwise bit_xor t a b)
outcome Lt t a b = Ok (truth (int_lt a b))
outcome Le t a b = Ok (truth (int_le a b))
outcome Gt t a b = Ok (truth (int_lt b a))
outcome Ge t a b = Ok (truth (int_le b a))
outcome Eq t a b = Ok (truth (is_same a b))
outcome Ne t a b = Ok (truth (not (is_same a b)))

-- the comparisons (C99 6.5.8, 6.5.9)
abbrev pub IsComparison : BinOp → Type 0
IsComparison Lt = ⊤
IsComparison Le = ⊤
IsComparison Gt = ⊤
IsComparison Ge = ⊤
IsComparison Eq = ⊤
IsComparison Ne = ⊤
IsComparison op = ⊥

-- b may stand at the right of the operator: for a shift it is of any type, so any number will do, else of the left
-- operand's
abbrev pub IsRightOperand : BinOp → IntType → ℤ → Type 0
IsRightOperand Shl t b = Unit {0}
IsRightOperand Shr t b = Unit {0}
IsRightOperand op t b = IsIn t b

-- the type of what an operator gives: a comparison gives an `int` (C99 6.5.8, 6.5.9)
abbrev pub result_type : BinOp → IntType → IntType
result_type Lt t = Int
result_type Le t = Int
result_type Gt t = Int
result_type Ge t = Int
result_type Eq t = Int
result_type Ne t = Int
result_type op t = t
