use Rattle.operand_orders.specs.reading.Views.{solved}
use Rattle.operand_orders.proofs.Joining.{exceeds_is, never_exceeds}
use Rattle.operand_orders.proofs.order.exceeds.Goals as goal

pub returns-in-Some : goal.returns-in-Some
returns-in-Some c =
    exceeds_is (solved c.args.view) c.args.cell c.args.joined.now c.args.copy c.in-Some.state.now c.in-Some.ensures
    c.is_beyond.result c.is_beyond.ensures

pub returns-in-None : goal.returns-in-None
returns-in-None c = never_exceeds (solved c.args.view) c.args.cell c.args.joined.now c.args.copy c.in-None.ensures
