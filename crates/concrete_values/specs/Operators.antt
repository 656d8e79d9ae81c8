-- What the operators of C give on integers (C99 6.5).
use Rattle.std.specs.Prelude.{ℕ, ℤ, pos, negsuc, ◌-ℤ◌, Bool, true, false, if◌then◌else◌, Result, Ok, Err}
use Rattle.tm_cint.specs.declared.Class.{Class}
use Rattle.tm_cint.specs.declared.int_types.IntType.{IntType}
use Rattle.tm_cint.specs.declared.operators.BinOp.{BinOp}
use Rattle.tm_cint.specs.declared.operators.BinOp.TheVariants as Ops
use Rattle.tm_cint.specs.Conversions.{converted_value, represents_all}
use Rattle.tm_cint.specs.Operators.{outcome, is_same}
use Rattle.tm_laid.specs.tm_typed.declared.expressions.Unary.{Unary}
use Rattle.tm_laid.specs.tm_typed.declared.expressions.Unary.TheVariants as Unaries
use Rattle.concrete_values.specs.declared.values.Value.{Value}
use Rattle.concrete_values.specs.declared.values.Value.TheVariants.{Number}
use Rattle.concrete_values.specs.Values.{number_of, number_in}

-- a number as a value, or the class of an error
abbrev pub number_result : Result ℤ Class → Result Value Class
number_result (Ok n) = Ok (Number n)
number_result (Err class) = Err class

-- the number at the right of an operator that works in the type: the count of a shift may be of any type (C99 6.5.7)
abbrev pub right_number : BinOp → IntType → Value → ℤ
right_number Ops.Shl t v = number_of v
right_number Ops.Shr t v = number_of v
right_number op t v = number_in t v

-- a binary operator that works in the type, comparisons included
unfoldable pub binary : BinOp → IntType → Value → Value → Result Value Class
binary op t x y = number_result (outcome op t (number_in t x) (right_number op t y))

-- `-x` is 0 - x, and `~x` is -1 - x in two's complement, in an unsigned type modulo 2^N (C99 6.5.3.3)
unfoldable pub unary : Unary → IntType → Value → Result Value Class
unary Unaries.Negate t x = number_result (outcome Ops.Sub t (pos 0) (number_in t x))
unary Unaries.Complement t x = Ok (Number (converted_value (negsuc 0 -ℤ number_in t x) t))

-- a conversion from a type to another (C99 6.3.1.2, 6.3.1.3): a type that has all values of the other keeps each of
-- them
unfoldable pub converted : IntType → IntType → Value → Value
converted from to x = if represents_all to from then x else Number (converted_value (number_of x) to)

-- whether the value of a `switch` is that of a label, both in the type in which it compares (C99 6.8.4.2)
unfoldable pub is_case : ℤ → Value → Bool
is_case label x = is_same (number_of x) label
