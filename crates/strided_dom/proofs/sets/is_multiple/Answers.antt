use Rattle.strided_dom.proofs.Decisions.{none_of_zero, each_of_one, multiple_by_rest}
use Rattle.strided_dom.proofs.sets.is_multiple.Goals as goal

pub returns-then-d-eq1 : goal.returns-then-d-eq1
returns-then-d-eq1 c = each_of_one c.args.d c.args.n c.if-d-eq1.true

pub returns-then-d-eq0 : goal.returns-then-d-eq0
returns-then-d-eq0 c = none_of_zero c.args.d c.args.n c.if-d-eq0.true c.if-n-eq0.false

pub returns : goal.returns
returns c = multiple_by_rest c.args.d c.args.n
