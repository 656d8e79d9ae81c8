-- What the code holds of a type that is read from outside.
use Rattle.std.specs.Prelude.{Bool, true, false}
use Rattle.tm_typed.specs.declared.types.CType.{CType}
use Rattle.tm_typed.specs.declared.types.CType.TheVariants as Types
use Rattle.source_names.specs.declared.words.Suffix.{Suffix}
use Rattle.source_names.specs.TypeWords.{Outside}

-- as a plain record
abbrev pub outside_of : Suffix → Outside
outside_of s = record { lengths = s.lengths.items; behind = s.behind.items; left = s.left }

-- neither a pointer nor an array
abbrev pub is_base : CType → Bool
is_base (Types.Pointer q) = false
is_base (Types.Array e n) = false
is_base Types.Void = true
is_base (Types.Int t) = true
is_base (Types.Struct k) = true
