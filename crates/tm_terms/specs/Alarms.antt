-- The order of alarms in a report.
use Rattle.std.specs.Prelude.{◌≡◌, ℕ, ◌<◌, ◌⊎◌, List, [], ◌∷◌}
use Rattle.tm_cint.specs.declared.Class.{Class}
use Rattle.tm_cint.specs.declared.Class.TheVariants.{Overflow, Div, Shift, Index, Pointer, Deref, Lock, Race}
use Rattle.tm_terms.specs.declared.alarms.Alarm.{Alarm}

-- the place of a class in the order of reports
abbrev pub class_number : Class → ℕ
class_number Overflow = 0
class_number Div = 1
class_number Shift = 2
class_number Index = 3
class_number Pointer = 4
class_number Deref = 5
class_number Lock = 6
class_number Race = 7

-- by line, then by column, then by class
abbrev pub AlarmBefore : Alarm → Alarm → Type 0
AlarmBefore a b =
    (a.place.line < b.place.line)
    ⊎ ((a.place.line ≡ b.place.line)
    × ((a.place.col < b.place.col)
    ⊎ ((a.place.col ≡ b.place.col) × (class_number a.class < class_number b.class))))

-- each alarm comes before the next one: sorted, without repeats
abbrev pub IsStrictlySorted : List Alarm → Type 0
IsStrictlySorted [] = Unit {0}
IsStrictlySorted (a ∷ []) = Unit {0}
IsStrictlySorted (a ∷ b ∷ alarms) = AlarmBefore a b × IsStrictlySorted (b ∷ alarms)
