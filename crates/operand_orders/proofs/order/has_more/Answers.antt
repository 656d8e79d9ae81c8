use Rattle.operand_orders.specs.reading.Views.{solved}
use Rattle.operand_orders.proofs.Joining.{more_is}
use Rattle.operand_orders.proofs.order.has_more.Goals as goal

pub returns : goal.returns
returns c =
    let same = more_is (solved c.args.view) c.args.behind c.args.cell c.in_ok-joined.joined c.in_ok-joined.ensures
    c.args.before c.copies_of.result.now c.copies_of.ensures in
    (λ t. same.0 (c.do_exceed.ensures.0 t), λ h. c.do_exceed.ensures.1 (same.1 h))
