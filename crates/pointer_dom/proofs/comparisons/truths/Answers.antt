use Rattle.pointer_dom.proofs.EqualityFacts.{truths_first, truths_second, truths_none}
use Rattle.pointer_dom.proofs.comparisons.truths.Goals as goal

pub returns-else-may_fail : goal.returns-else-may_fail
returns-else-may_fail c = truths_first c.args.may_hold c.args.may_fail c.if-may_hold.true c.if-may_fail.false c.one.result c.one.ensures

pub returns-then-may_fail-2 : goal.returns-then-may_fail-2
returns-then-may_fail-2 c = truths_second c.args.may_hold c.args.may_fail c.if-may_hold.false c.if-may_fail-2.true c.one-then-may_fail-2.result c.one-then-may_fail-2.ensures

pub returns-else-may_fail-2 : goal.returns-else-may_fail-2
returns-else-may_fail-2 c = truths_none c.args.may_hold c.args.may_fail c.if-may_hold.false c.if-may_fail-2.false c.empty.result c.empty.ensures
