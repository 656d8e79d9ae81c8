-- C's integers: the definitions give what vectors/integers.c says, which gcc checks, and where C99 leaves an operation
-- undefined, or a value passes 64 bits, what was worked by hand from C99's text.
use Rattle.std.specs.Prelude.{◌≡◌, ℕ, ℤ, pos, neg_ℤ, List, [], ◌∷◌, map, Result, Ok, Err, refl}
use Rattle.tm_cint.specs.declared.Class.{Class}
use Rattle.tm_cint.specs.declared.Class.TheVariants as Classes
use Rattle.tm_cint.specs.declared.int_types.IntType.{IntType}
use Rattle.tm_cint.specs.declared.int_types.IntType.TheVariants.{Bool, Char, UChar, Short, UShort, Int, UInt, Long}
use Rattle.tm_cint.specs.declared.int_types.IntType.TheVariants.{ULong, LLong, ULLong}
use Rattle.tm_cint.specs.declared.operators.BinOp.{BinOp}
use Rattle.tm_cint.specs.declared.operators.BinOp.TheVariants.{Add, Sub, Mul, Div, Rem, Shl, Shr, And, Or, Xor, Lt, Le}
use Rattle.tm_cint.specs.declared.operators.BinOp.TheVariants.{Gt, Ge, Eq, Ne}
use Rattle.tm_cint.specs.Conversions.{promoted_type, usual_type, converted_value}
use Rattle.tm_cint.specs.Operators.{outcome}

abbrev minus : ℕ → ℤ
minus n = neg_ℤ (pos n)

-- ## Types

abbrev types : List IntType
types = Bool ∷ Char ∷ UChar ∷ Short ∷ UShort ∷ Int ∷ UInt ∷ Long ∷ ULong ∷ LLong ∷ ULLong ∷ []

pub are_promoted : map promoted_type types
    ≡ Int ∷ Int ∷ Int ∷ Int ∷ Int ∷ Int ∷ UInt ∷ Long ∷ ULong ∷ LLong ∷ ULLong ∷ []
are_promoted = refl

-- the common type of a type, by row, and another, by column
pub are_usual : map (λ a. map (usual_type a) types) types ≡
    (Int ∷ Int ∷ Int ∷ Int ∷ Int ∷ Int ∷ UInt ∷ Long ∷ ULong ∷ LLong ∷ ULLong ∷ []) ∷
    (Int ∷ Int ∷ Int ∷ Int ∷ Int ∷ Int ∷ UInt ∷ Long ∷ ULong ∷ LLong ∷ ULLong ∷ []) ∷
    (Int ∷ Int ∷ Int ∷ Int ∷ Int ∷ Int ∷ UInt ∷ Long ∷ ULong ∷ LLong ∷ ULLong ∷ []) ∷
    (Int ∷ Int ∷ Int ∷ Int ∷ Int ∷ Int ∷ UInt ∷ Long ∷ ULong ∷ LLong ∷ ULLong ∷ []) ∷
    (Int ∷ Int ∷ Int ∷ Int ∷ Int ∷ Int ∷ UInt ∷ Long ∷ ULong ∷ LLong ∷ ULLong ∷ []) ∷
    (Int ∷ Int ∷ Int ∷ Int ∷ Int ∷ Int ∷ UInt ∷ Long ∷ ULong ∷ LLong ∷ ULLong ∷ []) ∷
    (UInt ∷ UInt ∷ UInt ∷ UInt ∷ UInt ∷ UInt ∷ UInt ∷ ULong ∷ ULong ∷ LLong ∷ ULLong ∷ []) ∷
    (Long ∷ Long ∷ Long ∷ Long ∷ Long ∷ Long ∷ ULong ∷ Long ∷ ULong ∷ LLong ∷ ULLong ∷ []) ∷
    (ULong ∷ ULong ∷ ULong ∷ ULong ∷ ULong ∷ ULong ∷ ULong ∷ ULong ∷ ULong ∷ LLong ∷ ULLong ∷ []) ∷
    (LLong ∷ LLong ∷ LLong ∷ LLong ∷ LLong ∷ LLong ∷ LLong ∷ LLong ∷ LLong ∷ LLong ∷ ULLong ∷ []) ∷
    (ULLong ∷ ULLong ∷ ULLong ∷ ULLong ∷ ULLong ∷ ULLong ∷ ULLong ∷ ULLong ∷ ULLong ∷ ULLong ∷ ULLong ∷ []) ∷ []
are_usual = refl

-- ## Conversions

-- a value, a type and the converted value
record Conversion : Type 0 where
  from : ℤ
  to : IntType
  value : ℤ

abbrev converts : ℤ → IntType → ℤ → Conversion
converts v t w = record { from = v; to = t; value = w }

abbrev conversions : List Conversion
conversions =
    converts (pos 0) Bool (pos 0) ∷
    converts (pos 1) Bool (pos 1) ∷
    converts (pos 2) Bool (pos 1) ∷
    converts (minus 1) Bool (pos 1) ∷
    converts (pos 256) Bool (pos 1) ∷
    converts (pos 4294967296) Bool (pos 1) ∷
    converts (pos 18446744073709551615) Bool (pos 1) ∷
    converts (pos 127) Char (pos 127) ∷
    converts (pos 128) Char (minus 128) ∷
    converts (pos 255) Char (minus 1) ∷
    converts (pos 256) Char (pos 0) ∷
    converts (minus 128) Char (minus 128) ∷
    converts (minus 129) Char (pos 127) ∷
    converts (pos 255) UChar (pos 255) ∷
    converts (pos 256) UChar (pos 0) ∷
    converts (minus 1) UChar (pos 255) ∷
    converts (minus 256) UChar (pos 0) ∷
    converts (minus 257) UChar (pos 255) ∷
    converts (pos 32767) Short (pos 32767) ∷
    converts (pos 32768) Short (minus 32768) ∷
    converts (pos 65535) Short (minus 1) ∷
    converts (minus 32768) Short (minus 32768) ∷
    converts (minus 32769) Short (pos 32767) ∷
    converts (pos 65535) UShort (pos 65535) ∷
    converts (pos 65536) UShort (pos 0) ∷
    converts (minus 1) UShort (pos 65535) ∷
    converts (minus 65536) UShort (pos 0) ∷
    converts (pos 2147483647) Int (pos 2147483647) ∷
    converts (pos 2147483648) Int (minus 2147483648) ∷
    converts (pos 4294967295) Int (minus 1) ∷
    converts (minus 2147483648) Int (minus 2147483648) ∷
    converts (minus 2147483649) Int (pos 2147483647) ∷
    converts (pos 18446744073709551615) Int (minus 1) ∷
    converts (pos 4294967295) UInt (pos 4294967295) ∷
    converts (pos 4294967296) UInt (pos 0) ∷
    converts (minus 1) UInt (pos 4294967295) ∷
    converts (minus 2147483648) UInt (pos 2147483648) ∷
    converts (minus 4294967296) UInt (pos 0) ∷
    converts (pos 2147483647) Long (pos 2147483647) ∷
    converts (pos 2147483648) Long (minus 2147483648) ∷
    converts (minus 2147483649) Long (pos 2147483647) ∷
    converts (pos 4294967296) ULong (pos 0) ∷
    converts (minus 1) ULong (pos 4294967295) ∷
    converts (pos 9223372036854775807) LLong (pos 9223372036854775807) ∷
    converts (pos 9223372036854775808) LLong (minus 9223372036854775808) ∷
    converts (pos 18446744073709551615) LLong (minus 1) ∷
    converts (minus 9223372036854775808) LLong (minus 9223372036854775808) ∷
    converts (pos 18446744073709551615) ULLong (pos 18446744073709551615) ∷
    converts (minus 1) ULLong (pos 18446744073709551615) ∷
    converts (minus 9223372036854775808) ULLong (pos 9223372036854775808) ∷
    converts (pos 170141183460469231731687303715884105727) Bool (pos 1) ∷
    converts (minus 170141183460469231731687303715884105728) Bool (pos 1) ∷
    converts (pos 170141183460469231731687303715884105727) Char (minus 1) ∷
    converts (minus 170141183460469231731687303715884105728) Char (pos 0) ∷
    converts (pos 1267650600228229401496703205376) Int (pos 0) ∷
    converts (pos 1267650600228229401496703205381) Int (pos 5) ∷
    converts (minus 1267650600228229401496703205377) Int (minus 1) ∷
    converts (pos 170141183460469231731687303715884105727) ULLong (pos 18446744073709551615) ∷
    converts (pos 18446744073709551616) ULLong (pos 0) ∷
    converts (pos 18446744073709551617) ULLong (pos 1) ∷
    converts (minus 9223372036854775809) ULLong (pos 9223372036854775807) ∷
    converts (minus 9223372036854775809) LLong (pos 9223372036854775807) ∷
    converts (pos 18446744073709551616) LLong (pos 0) ∷
    converts (pos 170141183460469231731687303715884105727) LLong (minus 1) ∷
    converts (minus 170141183460469231731687303715884105728) LLong (pos 0) ∷ []

pub are_converted : map (λ c. converted_value c.from c.to) conversions ≡ map (λ c. c.value) conversions
are_converted = refl

-- ## Operators

-- an operator, a type, its operands and the answer
record Operation : Type 0 where
  operator : BinOp
  of : IntType
  left : ℤ
  right : ℤ
  answer : Result ℤ Class

abbrev gives : BinOp → IntType → ℤ → ℤ → ℤ → Operation
gives op t a b v = record { operator = op; of = t; left = a; right = b; answer = Ok v }

abbrev fails : BinOp → IntType → ℤ → ℤ → Class → Operation
fails op t a b class = record { operator = op; of = t; left = a; right = b; answer = Err class }

abbrev values : List Operation
values =
    gives Add Int (pos 2147483646) (pos 1) (pos 2147483647) ∷
    gives Add UInt (pos 4294967295) (pos 1) (pos 0) ∷
    gives Add LLong (pos 2147483647) (pos 1) (pos 2147483648) ∷
    gives Add ULLong (pos 18446744073709551615) (pos 2) (pos 1) ∷
    gives Add UChar (pos 255) (pos 1) (pos 0) ∷
    gives Add Bool (pos 1) (pos 1) (pos 0) ∷
    gives Sub Int (minus 2147483647) (pos 1) (minus 2147483648) ∷
    gives Sub UInt (pos 0) (pos 1) (pos 4294967295) ∷
    gives Sub ULong (pos 3) (pos 5) (pos 4294967294) ∷
    gives Sub ULLong (pos 0) (pos 18446744073709551615) (pos 1) ∷
    gives Mul Int (minus 46340) (pos 46340) (minus 2147395600) ∷
    gives Mul UInt (pos 65536) (pos 65537) (pos 65536) ∷
    gives Mul LLong (pos 3037000499) (pos 3037000499) (pos 9223372030926249001) ∷
    gives Mul ULLong (pos 18446744073709551615) (pos 18446744073709551615) (pos 1) ∷
    gives Mul ULLong (pos 9223372036854775808) (pos 2) (pos 0) ∷
    gives Mul Bool (pos 1) (pos 1) (pos 1) ∷
    gives Div Int (pos 7) (pos 2) (pos 3) ∷
    gives Div Int (minus 7) (pos 2) (minus 3) ∷
    gives Div Int (pos 7) (minus 2) (minus 3) ∷
    gives Div Int (minus 7) (minus 2) (pos 3) ∷
    gives Div UInt (pos 4294967295) (pos 2) (pos 2147483647) ∷
    gives Div LLong (minus 9223372036854775808) (pos 1) (minus 9223372036854775808) ∷
    gives Div ULLong (pos 18446744073709551615) (pos 18446744073709551615) (pos 1) ∷
    gives Rem Int (pos 7) (pos 2) (pos 1) ∷
    gives Rem Int (minus 7) (pos 2) (minus 1) ∷
    gives Rem Int (pos 7) (minus 2) (pos 1) ∷
    gives Rem Int (minus 7) (minus 2) (minus 1) ∷
    gives Rem Int (minus 2147483648) (pos 2) (pos 0) ∷
    gives Rem UInt (pos 4294967295) (pos 10) (pos 5) ∷
    gives Rem ULLong (pos 18446744073709551615) (pos 10) (pos 5) ∷ []

pub are_values : map (λ o. outcome o.operator o.of o.left o.right) values ≡ map (λ o. o.answer) values
are_values = refl

abbrev bits : List Operation
bits =
    gives Shl Int (pos 1) (pos 30) (pos 1073741824) ∷
    gives Shl Int (pos 0) (pos 31) (pos 0) ∷
    gives Shl UInt (pos 1) (pos 31) (pos 2147483648) ∷
    gives Shl UInt (pos 3) (pos 31) (pos 2147483648) ∷
    gives Shl LLong (pos 1) (pos 62) (pos 4611686018427387904) ∷
    gives Shl ULLong (pos 3) (pos 63) (pos 9223372036854775808) ∷
    gives Shl Bool (pos 1) (pos 0) (pos 1) ∷
    gives Shr Int (minus 1) (pos 31) (minus 1) ∷
    gives Shr Int (minus 8) (pos 1) (minus 4) ∷
    gives Shr Int (minus 7) (pos 1) (minus 4) ∷
    gives Shr Int (pos 2147483647) (pos 30) (pos 1) ∷
    gives Shr UInt (pos 4294967295) (pos 31) (pos 1) ∷
    gives Shr LLong (minus 9223372036854775808) (pos 63) (minus 1) ∷
    gives Shr ULLong (pos 18446744073709551615) (pos 63) (pos 1) ∷
    gives Shr Char (minus 128) (pos 7) (minus 1) ∷
    gives And Int (minus 1) (pos 255) (pos 255) ∷
    gives And Int (minus 2) (minus 3) (minus 4) ∷
    gives And UInt (pos 4042322160) (pos 4278255360) (pos 4026593280) ∷
    gives Or Int (minus 8) (pos 3) (minus 5) ∷
    gives Or LLong (minus 9223372036854775808) (pos 1) (minus 9223372036854775807) ∷
    gives Or ULLong (pos 9223372036854775808) (pos 1) (pos 9223372036854775809) ∷
    gives Xor Int (minus 1) (pos 5) (minus 6) ∷
    gives Xor Int (minus 1) (minus 1) (pos 0) ∷
    gives Xor UInt (pos 4294967295) (pos 5) (pos 4294967290) ∷
    gives Xor LLong (minus 9223372036854775808) (pos 9223372036854775807) (minus 1) ∷
    gives Xor Char (minus 128) (pos 127) (minus 1) ∷ []

pub are_bits : map (λ o. outcome o.operator o.of o.left o.right) bits ≡ map (λ o. o.answer) bits
are_bits = refl

abbrev comparisons : List Operation
comparisons =
    gives Lt Int (minus 1) (pos 0) (pos 1) ∷
    gives Lt UInt (pos 4294967295) (pos 0) (pos 0) ∷
    gives Le Int (pos 5) (pos 5) (pos 1) ∷
    gives Le LLong (pos 9223372036854775807) (minus 9223372036854775808) (pos 0) ∷
    gives Gt Int (pos 0) (minus 1) (pos 1) ∷
    gives Gt ULLong (pos 18446744073709551615) (pos 1) (pos 1) ∷
    gives Ge Int (minus 1) (minus 1) (pos 1) ∷
    gives Ge Int (minus 2147483648) (pos 2147483647) (pos 0) ∷
    gives Eq Int (minus 1) (minus 1) (pos 1) ∷
    gives Eq Int (pos 1) (minus 1) (pos 0) ∷
    gives Ne Int (pos 1) (minus 1) (pos 1) ∷
    gives Ne ULLong (pos 9223372036854775808) (pos 9223372036854775808) (pos 0) ∷ []

pub are_comparisons : map (λ o. outcome o.operator o.of o.left o.right) comparisons ≡ map (λ o. o.answer) comparisons
are_comparisons = refl

abbrev errors : List Operation
errors =
    fails Add Int (pos 2147483647) (pos 1) Classes.Overflow ∷
    fails Add Int (minus 2147483648) (minus 1) Classes.Overflow ∷
    fails Add Long (pos 2147483647) (pos 2147483647) Classes.Overflow ∷
    fails Add LLong (pos 9223372036854775807) (pos 1) Classes.Overflow ∷
    fails Sub Int (minus 2147483648) (pos 1) Classes.Overflow ∷
    fails Sub Int (pos 0) (minus 2147483648) Classes.Overflow ∷
    fails Sub LLong (minus 9223372036854775808) (pos 1) Classes.Overflow ∷
    fails Mul Int (pos 46341) (pos 46341) Classes.Overflow ∷
    fails Mul Int (minus 2147483648) (minus 1) Classes.Overflow ∷
    fails Mul LLong (pos 3037000500) (pos 3037000500) Classes.Overflow ∷
    fails Mul LLong (minus 9223372036854775808) (minus 1) Classes.Overflow ∷
    fails Div Int (minus 2147483648) (minus 1) Classes.Overflow ∷
    fails Rem Int (minus 2147483648) (minus 1) Classes.Overflow ∷
    fails Div LLong (minus 9223372036854775808) (minus 1) Classes.Overflow ∷
    fails Rem LLong (minus 9223372036854775808) (minus 1) Classes.Overflow ∷
    fails Rem Long (minus 2147483648) (minus 1) Classes.Overflow ∷
    fails Div Int (pos 1) (pos 0) Classes.Div ∷
    fails Div Int (pos 0) (pos 0) Classes.Div ∷
    fails Rem Int (minus 1) (pos 0) Classes.Div ∷
    fails Div ULLong (pos 1) (pos 0) Classes.Div ∷
    fails Rem UInt (pos 1) (pos 0) Classes.Div ∷
    fails Shl Int (pos 1) (pos 31) Classes.Shift ∷
    fails Shl Int (pos 2) (pos 30) Classes.Shift ∷
    fails Shl Int (minus 1) (pos 1) Classes.Shift ∷
    fails Shl Int (minus 1) (pos 0) Classes.Shift ∷
    fails Shl Int (pos 1) (pos 32) Classes.Shift ∷
    fails Shl Int (pos 1) (minus 1) Classes.Shift ∷
    fails Shl UInt (pos 1) (pos 32) Classes.Shift ∷
    fails Shl LLong (pos 1) (pos 63) Classes.Shift ∷
    fails Shl LLong (pos 1) (pos 64) Classes.Shift ∷
    fails Shl ULLong (pos 1) (pos 64) Classes.Shift ∷
    fails Shr Int (pos 1) (pos 32) Classes.Shift ∷
    fails Shr Int (pos 0) (minus 1) Classes.Shift ∷
    fails Shr LLong (pos 1) (pos 64) Classes.Shift ∷
    fails Shr UInt (pos 1) (pos 4294967295) Classes.Shift ∷
    fails Add Char (pos 127) (pos 1) Classes.Overflow ∷
    fails Shl Bool (pos 1) (pos 1) Classes.Shift ∷
    fails Shl Short (pos 1) (pos 15) Classes.Shift ∷ []

pub are_errors : map (λ o. outcome o.operator o.of o.left o.right) errors ≡ map (λ o. o.answer) errors
are_errors = refl
