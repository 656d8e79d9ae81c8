-- The values that calculations give, and those that comparisons leave.
use Rattle.std.specs.Prelude.{Bool}
use Rattle.tm_cint.specs.declared.operators.BinOp.{BinOp}
use Rattle.interfere_set.specs.pointer_dom.Advances.{usable_pointers}
use Rattle.interfere_set.specs.pointer_dom.Values.{Values}
use Rattle.operator_values.specs.Integers as I
use Rattle.operator_values.specs.SetsOfPointers as P
use Rattle.transfer_rows.specs.StateForms.{State, value_of, only_numbers, only_pointers}
use Rattle.transfer_rows.specs.Actions.{Calculation, constant, copied, negated, complemented, operated, converted}
use Rattle.transfer_rows.specs.Actions.{compared, part, element, moved, dereferenced, Side, temporary, fixed}

unfoldable pub calculated : Calculation → State → Values
calculated (constant value) s = value
calculated (copied source) s = value_of s source
calculated (negated t source) s = only_numbers (I.negated t (value_of s source).numbers)
calculated (complemented t source) s = only_numbers (I.complemented t (value_of s source).numbers)
calculated (operated op t left right) s =
    only_numbers (I.operated op t (value_of s left).numbers (value_of s right).numbers)
calculated (converted t source) s = only_numbers (I.converted t (value_of s source).numbers)
calculated (compared equal left right) s =
    only_numbers (P.equality equal (value_of s left).pointers (value_of s right).pointers)
calculated (part cells source) s = only_pointers (P.offset_by cells (value_of s source).pointers)
calculated (element count cells source index) s =
    only_pointers (P.indexed count cells (value_of s index).numbers (value_of s source).pointers)
calculated (moved forward cells source count) s =
    only_pointers (P.moved forward cells (value_of s count).numbers (value_of s source).pointers)
calculated (dereferenced alive stands source) s =
    only_pointers (P.dereferenced alive stands (value_of s source).pointers)

-- the value without the invalid pointer
abbrev pub usable_values : Values → Values
usable_values v = record { numbers = v.numbers; pointers = usable_pointers v.pointers }

abbrev pub side_value : Side → State → Values
side_value (temporary number) s = value_of s number
side_value (fixed value) s = value

-- what is left of each side where the comparison holds
abbrev pub left_numbers : BinOp → Values → Values → Values
left_numbers op v w = only_numbers (I.left_assumed op v.numbers w.numbers)

abbrev pub right_numbers : BinOp → Values → Values → Values
right_numbers op v w = only_numbers (I.right_assumed op v.numbers w.numbers)

abbrev pub left_addresses : Bool → Values → Values → Values
left_addresses equal v w = only_pointers (P.left_pointers equal v.pointers w.pointers)

abbrev pub right_addresses : Bool → Values → Values → Values
right_addresses equal v w = only_pointers (P.right_pointers equal v.pointers w.pointers)
