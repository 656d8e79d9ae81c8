use Rattle.slot_numbers.specs.reading.Building.{AreSlotsOf}
use Rattle.slot_numbers.proofs.variable_numbers.number_variables.Given as goal

abbrev pub invariant-loop-node : goal.invariant-loop-node
invariant-loop-node l = AreSlotsOf l.graph l.placing l.cells l.node l.owned.items l.starts.items l.slots.items
