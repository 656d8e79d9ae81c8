use Rattle.std.proofs.Common.{◌≡◌, ◌++◌, map, take}
use Rattle.slot_numbers.specs.Numberings.{at_node}
use Rattle.slot_numbers.proofs.variable_numbers.push_slots.Given as goal

abbrev pub invariant-loop-cell : goal.invariant-loop-cell
invariant-loop-cell l = l.slots.items ≡ l.initial.slots.items ++ map (at_node l.node) (take l.cell-index l.cells)
