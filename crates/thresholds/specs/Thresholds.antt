-- The thresholds of a program: the numbers onto which the bounds of a value are moved outward.
use Rattle.std.specs.Prelude.{◌↔◌, ℕ, ℤ, pos, neg_ℤ, ◌+ℤ◌, ◌-ℤ◌, ◌||◌, cond, List, [], ◌∷◌, ◌++◌, Contains}
use Rattle.std.specs.List.{flat_map}
use Rattle.tm_cint.specs.declared.int_types.IntType.{IntType}
use Rattle.tm_cint.specs.declared.int_types.IntType.TheVariants as Ints
use Rattle.tm_cint.specs.IntTypes.{lo_of, hi_of, is_in}
use Rattle.strided_dom.specs.Rounding.{IsMarkList}

-- What gives a program its thresholds: the lengths of arrays in its text; the values of its maximal folded expressions
-- and the bounds of its inputs; the labels of its switches; and the numbers that its user gives.
pub record Numbers : Type 0 where
  pub lengths : List ℕ
  pub constants : List ℤ
  pub labels : List ℤ
  pub given : List ℕ

abbrev pub numbers_of : List ℕ → List ℤ → List ℤ → List ℕ → Numbers
numbers_of lengths constants labels given = record {
  lengths = lengths;
  constants = constants;
  labels = labels;
  given = given;
}

-- 0, 1 and -1
unfoldable pub units : List ℤ
units = pos 0 ∷ pos 1 ∷ neg_ℤ (pos 1) ∷ []

-- the least and the greatest value of a type
abbrev pub ends_of : IntType → List ℤ
ends_of t = lo_of t ∷ hi_of t ∷ []

-- the integer types
unfoldable pub all_types : List IntType
all_types =
    Ints.Bool ∷ Ints.Char ∷ Ints.UChar ∷ Ints.Short ∷ Ints.UShort ∷ Ints.Int ∷ Ints.UInt ∷ Ints.Long
    ∷ Ints.ULong ∷ Ints.LLong ∷ Ints.ULLong ∷ []

-- an array's length, and its last subscript
abbrev pub of_length : ℕ → List ℤ
of_length n = pos n ∷ (pos n -ℤ pos 1) ∷ []

-- a number with its neighbours, at which comparisons with it change their truth, and its opposite
abbrev pub near : ℤ → List ℤ
near c = (c -ℤ pos 1) ∷ c ∷ (c +ℤ pos 1) ∷ (pos 0 -ℤ c) ∷ []

-- a number that no integer type holds is no constant of a program
abbrev pub of_constant : ℤ → List ℤ
of_constant c = cond (is_in Ints.LLong c || is_in Ints.ULLong c) (near c) []

-- a given number, and its opposite
abbrev pub of_given : ℕ → List ℤ
of_given n = pos n ∷ (pos 0 -ℤ pos n) ∷ []

-- the thresholds, as they come
abbrev pub thresholds : Numbers → List ℤ
thresholds n =
    units ++ flat_map ends_of all_types ++ flat_map of_length n.lengths ++ flat_map of_constant n.constants
    ++ flat_map of_constant n.labels ++ flat_map of_given n.given

-- the marks are these numbers, each once and in ascending order
pub record AreInOrder (numbers marks : List ℤ) : Type 0 where
  pub ascending : IsMarkList marks
  pub same : (z : ℤ) → Contains marks z ↔ Contains numbers z

abbrev pub AreThresholds : Numbers → List ℤ → Type 0
AreThresholds n marks = AreInOrder (thresholds n) marks
