use Rattle.transfer_int.proofs.Comparing.{differ_at_once, differ_by_order}
use Rattle.transfer_int.proofs.comparisons.may_differ.Goals as goal

pub returns-then-may_be_less : goal.returns-then-may_be_less
returns-then-may_be_less c = differ_at_once c.args.a.now c.args.b.now c.may_be_less.result c.may_be_less.ensures c.if-may_be_less.true

pub returns : goal.returns
returns c =
    differ_by_order c.args.a.now c.args.b.now c.may_be_less.result c.may_be_less-2.result c.may_be_less.ensures c.may_be_less-2.ensures c.if-may_be_less.false
