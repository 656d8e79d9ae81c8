-- Values that are converted may be operands.
use Rattle.std.proofs.Common.{◌≡◌, ap, ◌∙◌, rules, ℤ, pos, Bool, true, false, cond}
use Rattle.tm_cint.specs.declared.int_types.IntType.{IntType}
use Rattle.tm_cint.specs.declared.int_types.IntType.TheVariants as Ints
use Rattle.tm_cint.specs.declared.operators.BinOp.{BinOp}
use Rattle.tm_cint.specs.IntTypes.{IsIn}
use Rattle.tm_cint.specs.Conversions.{converted_value, is_zero}
use Rattle.tm_cint.specs.Operators.{outcome}
use Rattle.tm_cint.proofs.Values.{wrapped-in, IsIn-right_operand}
use Rattle.tm_typed.specs.Rules.{FitsRight}

zero_or_one : (b : Bool) → IsIn Ints.Bool (cond b (pos 0) (pos 1))
zero_or_one true = record { at_least = search rules; at_most = search rules }
zero_or_one false = record { at_least = search rules; at_most = search rules }

pub converted_is_in : (t : IntType) (z : ℤ) → IsIn t (converted_value z t)
converted_is_in Ints.Bool z = zero_or_one (is_zero z)
converted_is_in Ints.Char z = wrapped-in Ints.Char z
converted_is_in Ints.UChar z = wrapped-in Ints.UChar z
converted_is_in Ints.Short z = wrapped-in Ints.Short z
converted_is_in Ints.UShort z = wrapped-in Ints.UShort z
converted_is_in Ints.Int z = wrapped-in Ints.Int z
converted_is_in Ints.UInt z = wrapped-in Ints.UInt z
converted_is_in Ints.Long z = wrapped-in Ints.Long z
converted_is_in Ints.ULong z = wrapped-in Ints.ULong z
converted_is_in Ints.LLong z = wrapped-in Ints.LLong z
converted_is_in Ints.ULLong z = wrapped-in Ints.ULLong z

pub same_type_fits : (op : BinOp) (t : IntType) → FitsRight op t t
same_type_fits op t = record { fits = λ z. IsIn-right_operand op t (converted_value z t) (converted_is_in t z) }

pub outcome_along : (op : BinOp) (t : IntType) {x y u w : ℤ} → x ≡ u → y ≡ w → outcome op t x y ≡ outcome op t u w
outcome_along op t {x} {y} {u} {w} e f = ap (λ z. outcome op t z y) e ∙ ap (λ z. outcome op t u z) f
