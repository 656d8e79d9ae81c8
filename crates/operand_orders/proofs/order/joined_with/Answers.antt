use Rattle.operand_orders.specs.reading.Views.{solved, state_at}
use Rattle.operand_orders.proofs.Joining.{joined_nowhere}
use Rattle.operand_orders.proofs.order.joined_with.Goals as goal

pub returns-in-None : goal.returns-in-None
returns-in-None c =
    joined_nowhere (state_at (solved c.args.view) c.args.copy) c.in-None.ensures c.args.cell c.args.joined
