use Rattle.std.specs.FinMap.{get}
use Rattle.operand_orders.proofs.Leaving.{value_is, no_value_is}
use Rattle.operand_orders.proofs.others.has_value.Goals as goal

pub returns-in-Some : goal.returns-in-Some
returns-in-Some c =
    value_is (get c.args.cells.now c.args.cell) c.in-Some.value.now c.in-Some.ensures c.is_nothing.result
    c.is_nothing.ensures.nothing

pub returns-in-None : goal.returns-in-None
returns-in-None c = no_value_is (get c.args.cells.now c.args.cell) c.in-None.ensures
