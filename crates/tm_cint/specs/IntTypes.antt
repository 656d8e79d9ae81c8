-- The integer types of the data model (C99 6.2.5, 6.2.6.2): one table, from which the values of each type follow.
use Rattle.std.specs.Prelude.{ℕ, ◌-◌, ◌^◌, ℤ, pos, neg_ℤ, ◌≤ℤ◌, ◌&&◌, int_le, true, false, if◌then◌else◌}
use Rattle.std.specs.Prelude as P
use Rattle.tm_cint.specs.declared.int_types.IntType.{IntType}
use Rattle.tm_cint.specs.declared.int_types.IntType.TheVariants.{Bool, Char, UChar, Short, UShort, Int, UInt, Long}
use Rattle.tm_cint.specs.declared.int_types.IntType.TheVariants.{ULong, LLong, ULLong}

-- a row of the table: how many bits a type has, the sign bit included, and whether it has one
pub record Row : Type 0 where
  pub width : ℕ
  pub signed : P.Bool

abbrev pub signed_row : ℕ → Row
signed_row n = record { width = n; signed = true }

abbrev pub unsigned_row : ℕ → Row
unsigned_row n = record { width = n; signed = false }

-- the table
abbrev pub row_of : IntType → Row
row_of Bool = unsigned_row 1
row_of Char = signed_row 8
row_of UChar = unsigned_row 8
row_of Short = signed_row 16
row_of UShort = unsigned_row 16
row_of Int = signed_row 32
row_of UInt = unsigned_row 32
row_of Long = signed_row 32
row_of ULong = unsigned_row 32
row_of LLong = signed_row 64
row_of ULLong = unsigned_row 64

abbrev pub width_of : IntType → ℕ
width_of t = (row_of t).width

abbrev pub is_signed : IntType → P.Bool
is_signed t = (row_of t).signed

-- the bits that represent values, the sign bit left out
abbrev pub precision_of : IntType → ℕ
precision_of t = if is_signed t then width_of t - 1 else width_of t

-- the least value of the type
abbrev pub lo_of : IntType → ℤ
lo_of t = if is_signed t then neg_ℤ (pos (2 ^ precision_of t)) else pos 0

-- the greatest value of the type
abbrev pub hi_of : IntType → ℤ
hi_of t = pos (2 ^ precision_of t - 1)

-- v is a value of the type
pub record IsIn (t : IntType) (v : ℤ) : Type 0 where
  pub at_least : lo_of t ≤ℤ v
  pub at_most : v ≤ℤ hi_of t

-- the test that v is a value of the type
abbrev pub is_in : IntType → ℤ → P.Bool
is_in t v = int_le (lo_of t) v && int_le v (hi_of t)
