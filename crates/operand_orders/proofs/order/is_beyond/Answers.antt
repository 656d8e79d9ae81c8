use Rattle.std.specs.FinMap.{get}
use Rattle.operand_orders.proofs.Joining.{beyond_is, never_beyond}
use Rattle.operand_orders.proofs.order.is_beyond.Goals as goal

pub returns-in-Some : goal.returns-in-Some
returns-in-Some c =
    beyond_is (get c.args.state.now.cells c.args.cell) c.in-Some.entry.now c.in-Some.ensures c.args.joined.now
    c.below.result c.below.ensures

pub returns-in-None : goal.returns-in-None
returns-in-None c = never_beyond (get c.args.state.now.cells c.args.cell) c.in-None.ensures c.args.joined.now
