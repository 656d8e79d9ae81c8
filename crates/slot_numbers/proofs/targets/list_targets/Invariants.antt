use Rattle.slot_numbers.specs.reading.Building.{AreTargets}
use Rattle.slot_numbers.proofs.targets.list_targets.Given as goal

abbrev pub invariant-loop-number : goal.invariant-loop-number
invariant-loop-number l = AreTargets l.graph l.cells l.variables l.flows l.number l.lists
