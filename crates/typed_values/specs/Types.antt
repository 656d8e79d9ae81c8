-- Sets of values of a type, in a program whose objects are laid out.
use Rattle.std.specs.Prelude.{◌≡◌, ℕ, ◌<◌, ℤ, List, length, Some, Contains}
use Rattle.std.specs.FinMap.{get}
use Rattle.operator_values.specs.strided_dom.Progression.{empty}
use Rattle.tm_cint.specs.declared.int_types.IntType.{IntType}
use Rattle.tm_cint.specs.IntTypes.{IsIn, lo_of, hi_of}
use Rattle.tm_typed.specs.declared.types.Scalar.{Scalar}
use Rattle.tm_typed.specs.declared.types.Scalar.TheVariants.{Int, Pointer}
use Rattle.tm_laid.specs.Layouts.{LaidTree, object_at}
use Rattle.operator_values.specs.transfer_int.Operands.{AreValues}
use Rattle.operator_values.specs.pointer_dom.OffsetSets.{OffsetSet}
use Rattle.operator_values.specs.pointer_dom.PointerSets.{Pointers, IsPointers, no_pointer}
use Rattle.operator_values.specs.pointer_dom.Values.{Values}

-- the objects exist, with their sizes
abbrev pub AreObjects : LaidTree → Pointers → Type 0
AreObjects laid p = (object : ℕ) (o : OffsetSet) → get p.objects object ≡ Some o
    → (object < length laid.objects) × (o.size ≡ (object_at laid object).cells)

-- numbers of the type, or pointers to objects of the program; nothing is of every type
abbrev pub IsOfType : LaidTree → Scalar → Values → Type 0
IsOfType laid (Int t) v = AreValues t v.numbers × (v.pointers ≡ no_pointer)
IsOfType laid (Pointer class) v = (v.numbers ≡ empty) × IsPointers v.pointers × AreObjects laid v.pointers

-- the number is of the type
abbrev pub HoldsNumber : Scalar → ℤ → Type 0
HoldsNumber (Int t) n = IsIn t n
HoldsNumber (Pointer class) n = ⊥

-- a pointer type
abbrev pub HoldsPointers : Scalar → Type 0
HoldsPointers (Int t) = ⊥
HoldsPointers (Pointer class) = Unit {0}

-- the types have the same values: pointers of all types are alike
abbrev pub HaveSameValues : Scalar → Scalar → Type 0
HaveSameValues (Int t) (Int u) = t ≡ u
HaveSameValues (Int t) (Pointer d) = ⊥
HaveSameValues (Pointer c) (Int u) = ⊥
HaveSameValues (Pointer c) (Pointer d) = Unit {0}

-- the least and the greatest value of each integer type is a threshold
pub record HaveEnds (marks : List ℤ) : Type 0 where
  pub least : (t : IntType) → Contains marks (lo_of t)
  pub greatest : (t : IntType) → Contains marks (hi_of t)
