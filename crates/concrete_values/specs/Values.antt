-- Values of scalar cells, and their truth.
use Rattle.std.specs.Prelude.{ℕ, ℤ, pos, Bool, true, false, if◌then◌else◌, not}
use Rattle.tm_cint.specs.declared.int_types.IntType.{IntType}
use Rattle.tm_cint.specs.IntTypes.{is_in}
use Rattle.tm_cint.specs.Conversions.{is_zero}
use Rattle.concrete_values.specs.declared.values.Pointer.{Pointer}
use Rattle.concrete_values.specs.declared.values.Pointer.TheVariants as Pointers
use Rattle.concrete_values.specs.declared.values.Value.{Value}
use Rattle.concrete_values.specs.declared.values.Value.TheVariants.{Number, Pointer as APointer}

-- the value of what gives none, as a call of a `void` function: nobody uses it
abbrev pub nothing : Value
nothing = APointer Pointers.Invalid

-- 1 for a fact that holds, else 0
abbrev pub truth_value : Bool → Value
truth_value true = Number (pos 1)
truth_value false = Number (pos 0)

abbrev pub is_null : Pointer → Bool
is_null Pointers.Null = true
is_null Pointers.Invalid = false
is_null (Pointers.To object offset) = false

-- not equal to 0, or not null (C99 6.5.13, 6.8.4.1)
unfoldable pub is_true : Value → Bool
is_true (Number n) = not (is_zero n)
is_true (APointer p) = not (is_null p)

-- The number of a value, and its pointer. The value of another kind counts as 0, or as the invalid pointer: none comes
-- where a number, or a pointer, is wanted.
unfoldable pub number_of : Value → ℤ
number_of (Number n) = n
number_of (APointer p) = pos 0

unfoldable pub pointer_of : Value → Pointer
pointer_of (Number n) = Pointers.Invalid
pointer_of (APointer p) = p

-- the number of a value of the type; any other counts as 0
unfoldable pub number_in : IntType → Value → ℤ
number_in t v = if is_in t (number_of v) then number_of v else pos 0
