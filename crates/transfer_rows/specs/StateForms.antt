-- States whose values are sets of numbers and pointers, and what they say of a temporary and of a cell.
use Rattle.std.specs.Prelude.{ℕ, ℤ, Bool, true, false, ◌&&◌, not, eqb, List, Option, Some, None}
use Rattle.std.specs.FinMap.{get, len}
use Rattle.interfere_set.specs.strided_dom.Progression.{Progression, empty, single, row}
use Rattle.interfere_set.specs.pointer_dom.PointerSets.{Pointers, no_pointer}
use Rattle.interfere_set.specs.pointer_dom.Values.{Values, IsValues, IsValuesBelow, no_value}
use Rattle.cell_env.specs.declared.cells.CellState.{CellState}
use Rattle.cell_env.specs.declared.temps.TempState.{TempState}
use Rattle.cell_env.specs.Cells.{IsCell, IsCellBelow}
use Rattle.cell_env.specs.Temps.{IsTemp, IsTempBelow}
use Rattle.cell_env.specs.States.{TaskState, IsState, IsStateBelow}

abbrev pub Temp : Type 0
Temp = TempState Values (List ℤ)

abbrev pub Cell : Type 0
Cell = CellState Values (List ℤ)

abbrev pub State : Type 0
State = TaskState Values (List ℤ)

-- values are sets of values, and states are compared entry by entry
abbrev pub IsTempForm : Temp → Type 0
IsTempForm t = IsTemp IsValues t

abbrev pub IsCellForm : Cell → Type 0
IsCellForm c = IsCell IsValues c

abbrev pub IsStateForm : State → Type 0
IsStateForm s = IsState IsValues s

abbrev pub IsTempUnder : Temp → Temp → Type 0
IsTempUnder t u = IsTempBelow IsValuesBelow t u

abbrev pub IsCellUnder : Cell → Cell → Type 0
IsCellUnder c d = IsCellBelow IsValuesBelow c d

abbrev pub IsStateUnder : State → State → Type 0
IsStateUnder s t = IsStateBelow IsValuesBelow s t

-- no number is in the set
abbrev pub is_empty : Progression → Bool
is_empty empty = true
is_empty (single v) = false
is_empty (row first gap more) = false

-- nothing is in the value
abbrev pub is_no_value : Values → Bool
is_no_value v =
    is_empty v.numbers && (not v.pointers.null && (not v.pointers.invalid && eqb (len v.pointers.objects) 0))

abbrev pub only_numbers : Progression → Values
only_numbers n = record { numbers = n; pointers = no_pointer }

abbrev pub only_pointers : Pointers → Values
only_pointers p = record { numbers = empty; pointers = p }

abbrev pub temp_value : Option Temp → Values
temp_value None = no_value
temp_value (Some t) = t.value

abbrev pub own_value : Option Cell → Values
own_value None = no_value
own_value (Some c) = c.value

-- the value of a temporary, and the own value of a cell; nothing where it has no entry
abbrev pub value_of : State → ℕ → Values
value_of s t = temp_value (get s.temps t)

abbrev pub own_of : State → ℕ → Values
own_of s x = own_value (get s.cells x)
