use Rattle.operand_orders.proofs.Halving.{ordered_is}
use Rattle.operand_orders.proofs.pairs.in_order.Goals as goal

pub returns : goal.returns
returns c =
    ordered_is c.args.pairs.items c.sort_unstable.new.self.items c.dedup.new.self.items
    c.sort_unstable.ensures.permutation c.sort_unstable.ensures.sorted c.dedup.ensures.filtered
