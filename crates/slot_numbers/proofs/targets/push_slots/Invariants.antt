use Rattle.std.proofs.Common.{◌≡◌, ◌++◌, map, take}
use Rattle.front_constraints.specs.Systems.{slot_at}
use Rattle.slot_numbers.specs.Numberings.{number_of}
use Rattle.slot_numbers.proofs.targets.push_slots.Given as goal

abbrev pub invariant-loop-cell : goal.invariant-loop-cell
invariant-loop-cell l = l.list ≡ l.initial.list ++ map (number_of l.variables) (map (slot_at l.node) (take l.cell-index l.cells))
