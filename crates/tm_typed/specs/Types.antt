-- The types that every file has: the table begins with them.
use Rattle.std.specs.Prelude.{ℕ, ◌+◌, ◌==◌, Bool, true, false, cond, List, [], ◌∷◌}
use Rattle.tm_trees.specs.tm_cint.declared.int_types.IntType.{IntType}
use Rattle.tm_trees.specs.tm_cint.declared.int_types.IntType.TheVariants as Ints
use Rattle.tm_typed.specs.declared.types.CType.TheVariants as Types
use Rattle.tm_typed.specs.declared.types.Scalar.{Scalar}
use Rattle.tm_typed.specs.declared.types.Scalar.TheVariants as Scalars
use Rattle.tm_typed.specs.declared.types.TypeEntry.{TypeEntry}

-- the integer types in their order
abbrev pub int_index : IntType → ℕ
int_index Ints.Bool = 0
int_index Ints.Char = 1
int_index Ints.UChar = 2
int_index Ints.Short = 3
int_index Ints.UShort = 4
int_index Ints.Int = 5
int_index Ints.UInt = 6
int_index Ints.Long = 7
int_index Ints.ULong = 8
int_index Ints.LLong = 9
int_index Ints.ULLong = 10

abbrev pub is_same_int : IntType → IntType → Bool
is_same_int a b = int_index a == int_index b

abbrev pub is_pointer_scalar : Scalar → Bool
is_pointer_scalar (Scalars.Int t) = false
is_pointer_scalar (Scalars.Pointer class) = true

-- the bytes of an integer type, and so its alignment
abbrev pub bytes_of : IntType → ℕ
bytes_of Ints.Bool = 1
bytes_of Ints.Char = 1
bytes_of Ints.UChar = 1
bytes_of Ints.Short = 2
bytes_of Ints.UShort = 2
bytes_of Ints.Int = 4
bytes_of Ints.UInt = 4
bytes_of Ints.Long = 4
bytes_of Ints.ULong = 4
bytes_of Ints.LLong = 8
bytes_of Ints.ULLong = 8

-- what stands in place of a type that there is not
abbrev pub no_type : TypeEntry
no_type = record {
  ctype = Types.Void;
  class = 0;
  cells = 0;
  abstract_cells = 0;
  size = 0;
  tight_size = 0;
  alignment = 0;
  of_pointers = false;
}

-- the number of `void`
abbrev pub void_number : ℕ
void_number = 0

-- the number of an integer type
abbrev pub int_number : IntType → ℕ
int_number t = int_index t + 1

-- The number of the type of enumerations whose constants are all from 0 on. It is `int`; it has a row of its own since
-- some compilers make it `unsigned int` (C99 6.7.2.2p4).
abbrev pub enumerated_number : ℕ
enumerated_number = 12

-- the number of the type of an enumeration
abbrev pub enumeration_number : Bool → ℕ
enumeration_number is_from_zero = cond is_from_zero enumerated_number (int_number Ints.Int)

abbrev pub is_enumerated : ℕ → Bool
is_enumerated n = n == enumerated_number

abbrev pub int_entry : IntType → TypeEntry
int_entry t = record {
  ctype = Types.Int t;
  class = int_number t;
  cells = 1;
  abstract_cells = 1;
  size = bytes_of t;
  tight_size = bytes_of t;
  alignment = bytes_of t;
  of_pointers = false;
}

-- the types with which the table begins: `void`, the integer types, and `int` once more for enumerations
abbrev pub first_types : List TypeEntry
first_types =
    no_type
    ∷ int_entry Ints.Bool
    ∷ int_entry Ints.Char
    ∷ int_entry Ints.UChar
    ∷ int_entry Ints.Short
    ∷ int_entry Ints.UShort
    ∷ int_entry Ints.Int
    ∷ int_entry Ints.UInt
    ∷ int_entry Ints.Long
    ∷ int_entry Ints.ULong
    ∷ int_entry Ints.LLong
    ∷ int_entry Ints.ULLong
    ∷ int_entry Ints.Int
    ∷ []
