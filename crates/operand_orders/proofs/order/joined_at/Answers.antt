use Rattle.std.proofs.Common.{arith}
use Rattle.operand_orders.specs.reading.Views.{solved}
use Rattle.operand_orders.proofs.Joining.{join_first, join_more, join_all}
use Rattle.operand_orders.proofs.order.joined_at.Goals as goal

pub loop-copy-init : goal.loop-copy-init
loop-copy-init c = join_first (solved c.args.view) c.args.cell _ cc

pub loop-copy-preserved : goal.loop-copy-preserved
loop-copy-preserved c =
    join_more (solved c.args.view) c.args.cell c.copies_of-copy-items.result.now c.loop-copy.copy-index
    c.loop-copy-test.true
    _ _ c.loop-copy.invariant c.in_ok-joined.ensures

pub returns : goal.returns
returns c =
    join_all (solved c.args.view) c.args.cell c.args.edge c.copies_of-copy-items.result.now
    c.copies_of-copy-items.ensures
    c.loop-copy.copy-index (omega arith) c.loop-copy.joined c.loop-copy.invariant
