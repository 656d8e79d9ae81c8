-- Sets of scalar values: what an `AbsValue` is in every contract.
use Rattle.std.specs.Prelude.{List, ℤ}
use Rattle.strided_dom.specs.Progression.{Progression, empty, Has, IsSubset, IsExactly}
use Rattle.strided_dom.specs.Combinations.{IsInBoth}
use Rattle.pointer_dom.specs.Pointer.{ScalarValue, number, pointer}
use Rattle.pointer_dom.specs.StridedSets.{hull, rounding}
use Rattle.pointer_dom.specs.PointerSets.{Pointers, IsPointers, no_pointer, IsPointer, IsPointersBelow, joined_pointers}
use Rattle.pointer_dom.specs.PointerSets.{rounded_pointers, IsMeet}

-- A set of numbers and a set of pointers.
pub record Values : Type 0 where
  pub numbers : Progression
  pub pointers : Pointers

-- Each pointer leads into its object.
abbrev pub IsValues : Values → Type 0
IsValues v = IsPointers v.pointers

-- The empty set.
abbrev pub no_value : Values
no_value = record { numbers = empty; pointers = no_pointer }

-- The number or pointer is in the set.
abbrev pub IsValueIn : Values → ScalarValue → Type 0
IsValueIn v (number n) = Has v.numbers n
IsValueIn v (pointer p) = IsPointer v.pointers p

-- The order goes part by part.
pub record IsValuesBelow (v w : Values) : Type 0 where
  pub numbers : IsSubset v.numbers w.numbers
  pub pointers : IsPointersBelow v.pointers w.pointers

-- The join goes part by part.
abbrev pub joined_values : Values → Values → Values
joined_values v w = record { numbers = hull v.numbers w.numbers; pointers = joined_pointers v.pointers w.pointers }

-- The rounding goes part by part.
abbrev pub rounded_values : List ℤ → Values → Values
rounded_values marks v = record { numbers = rounding marks v.numbers; pointers = rounded_pointers marks v.pointers }

-- The meet goes part by part.
pub record IsValuesMeet (v w met : Values) : Type 0 where
  pub numbers : IsExactly (IsInBoth v.numbers w.numbers) met.numbers
  pub pointers : IsMeet v.pointers w.pointers met.pointers
