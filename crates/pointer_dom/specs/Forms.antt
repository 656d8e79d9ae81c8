-- How an `AbsValue` is kept.
use Rattle.std.specs.Prelude.{◌≢◌, Option, Some, None}
use Rattle.strided_dom.specs.Progression.{empty}
use Rattle.pointer_dom.specs.PointerSets.{Pointers, IsPointers, no_pointer}
use Rattle.pointer_dom.specs.Values.{Values}
use Rattle.pointer_dom.specs.declared.abs_value.Parts.{Parts}
use Rattle.pointer_dom.specs.declared.abs_value.Parts.TheVariants.{Int, Ptr, Both}

-- The set that the parts stand for.
abbrev pub values_of : Parts → Values
values_of (Int s) = record { numbers = s; pointers = no_pointer }
values_of (Ptr p) = record { numbers = empty; pointers = p }
values_of (Both s p) = record { numbers = s; pointers = p }

-- Each set is kept in one form: no part of two is empty, and nothing is an `Int`.
abbrev pub IsNormal : Parts → Type 0
IsNormal (Int s) = Unit {0}
IsNormal (Ptr p) = IsPointers p × (p ≢ no_pointer)
IsNormal (Both s p) = (s ≢ empty) × IsPointers p × (p ≢ no_pointer)

-- The pointers where there are some.
abbrev pub pointers_or_none : Option Pointers → Pointers
pointers_or_none None = no_pointer
pointers_or_none (Some p) = p
