use Rattle.operand_orders.proofs.Copies.{copies_there}
use Rattle.operand_orders.proofs.views.BodyView.copies_of.Goals as goal

pub returns : goal.returns
returns c = copies_there c.args.self.now c.requires.indexed c.args.edge c.list_in.result.now c.list_in.ensures
