use Rattle.operand_orders.specs.reading.Lists.{AreEmptyLists}
use Rattle.operand_orders.proofs.lists.empty_lists.Given as goal

abbrev pub invariant-loop : goal.invariant-loop
invariant-loop g l = AreEmptyLists l.lists.items l.counter
