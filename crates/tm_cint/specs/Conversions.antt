-- The conversions among integer types (C99 6.3.1).
use Rattle.std.specs.Prelude.{ℕ, zero, suc, ◌-◌, ◌%◌, ◌^◌, ◌&&◌, ℤ, pos, negsuc, ◌-ℤ◌, int_le, nat_lt}
use Rattle.std.specs.Prelude.{nat_le, true, false, if◌then◌else◌}
use Rattle.std.specs.Prelude as P
use Rattle.tm_cint.specs.IntTypes.{width_of, is_signed, lo_of, hi_of}
use Rattle.tm_cint.specs.declared.int_types.IntType.{IntType}
use Rattle.tm_cint.specs.declared.int_types.IntType.TheVariants.{Bool, Char, UChar, Short, UShort, Int, UInt, Long}
use Rattle.tm_cint.specs.declared.int_types.IntType.TheVariants.{ULong, LLong, ULLong}

-- 1 for a fact that holds, else 0
abbrev pub truth : P.Bool → ℤ
truth true = pos 1
truth false = pos 0

abbrev pub is_zero : ℤ → P.Bool
is_zero (pos zero) = true
is_zero (pos (suc n)) = false
is_zero (negsuc n) = false

-- v modulo 2 to the power of n, from 0 to 2 ^ n - 1
abbrev pub residue : ℕ → ℤ → ℕ
residue n (pos a) = a % 2 ^ n
residue n (negsuc a) = 2 ^ n - 1 - a % 2 ^ n

-- the value that the bits r stand for: r where the type holds it, else a negative one (two's complement, C99 6.2.6.2)
abbrev pub value_of : IntType → ℕ → ℤ
value_of t r = if int_le (pos r) (hi_of t) then pos r else pos r -ℤ pos (2 ^ width_of t)

-- the value of the type that is v modulo 2 to the power of the width
abbrev pub wrapped : IntType → ℤ → ℤ
wrapped t v = value_of t (residue (width_of t) v)

-- v converted to the type (C99 6.3.1.2, 6.3.1.3): a value that a signed type does not hold wraps, as one of an unsigned
-- type does
abbrev pub converted_value : ℤ → IntType → ℤ
converted_value v Bool = if is_zero v then pos 0 else pos 1
converted_value v t = wrapped t v

-- the rank (C99 6.3.1.1): `_Bool` lowest, and a type has the rank of its unsigned one
abbrev pub rank_of : IntType → ℕ
rank_of Bool = 0
rank_of Char = 1
rank_of UChar = 1
rank_of Short = 2
rank_of UShort = 2
rank_of Int = 3
rank_of UInt = 3
rank_of Long = 4
rank_of ULong = 4
rank_of LLong = 5
rank_of ULLong = 5

-- s can represent every value of t
abbrev pub represents_all : IntType → IntType → P.Bool
represents_all s t = int_le (lo_of s) (lo_of t) && int_le (hi_of t) (hi_of s)

-- the integer promotions (C99 6.3.1.1): a type of lower rank than `int` becomes `int` where that has all its values,
-- else `unsigned int`
abbrev pub promoted_type : IntType → IntType
promoted_type t = if nat_lt (rank_of t) (rank_of Int) then (if represents_all Int t then Int else UInt) else t

-- the unsigned type that corresponds to the type (C99 6.2.5)
abbrev pub unsigned_of : IntType → IntType
unsigned_of Char = UChar
unsigned_of Short = UShort
unsigned_of Int = UInt
unsigned_of Long = ULong
unsigned_of LLong = ULLong
unsigned_of t = t

-- of two types that are both signed or both unsigned, the one of the greater rank
abbrev pub greater_of : IntType → IntType → IntType
greater_of a b = if nat_lt (rank_of a) (rank_of b) then b else a

-- the common type of a signed and an unsigned type: the unsigned one where its rank is not less, else the signed one
-- where it has all values of the other, else the unsigned one of the signed
abbrev pub mixed_type : IntType → IntType → IntType
mixed_type s u = if nat_le (rank_of s) (rank_of u) then u else (if represents_all s u then s else unsigned_of s)

-- the common type of two promoted types (C99 6.3.1.8)
abbrev pub common_type : IntType → IntType → IntType
common_type a b =
    if is_signed a
    then (if is_signed b then greater_of a b else mixed_type a b)
    else (if is_signed b then mixed_type b a else greater_of a b)

-- the usual arithmetic conversions (C99 6.3.1.8)
abbrev pub usual_type : IntType → IntType → IntType
usual_type a b = common_type (promoted_type a) (promoted_type b)
