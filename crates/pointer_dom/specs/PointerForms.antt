-- The pointer that a `PointerValue` stands for.
use Rattle.std.specs.Prelude.{Bool, true, false, Option, Some, None}
use Rattle.pointer_dom.specs.Pointer.{Pointer, null, invalid, to}
use Rattle.pointer_dom.specs.declared.comparisons.PointerValue.{PointerValue}
use Rattle.pointer_dom.specs.declared.comparisons.PointerValue.TheVariants.{Null, Invalid, To}

abbrev pub pointer_of : PointerValue → Pointer
pointer_of Null = null
pointer_of Invalid = invalid
pointer_of (To object offset) = to object offset

-- Null or the invalid pointer, where one of them is there and the other is not.
abbrev pub flag_alone : Bool → Bool → Option PointerValue
flag_alone true true = None
flag_alone true false = Some Null
flag_alone false true = Some Invalid
flag_alone false false = None
