use Rattle.transfer_int.proofs.Placing.{some_member}
use Rattle.transfer_int.proofs.Excluding.{never, zero_divisor}
use Rattle.transfer_int.proofs.Inside.{none_in}
use Rattle.transfer_int.proofs.classes.has_zero_divisor.Goals as goal

pub returns-then-is_empty : goal.returns-then-is_empty
returns-then-is_empty c = never (λ h. none_in c.args.a.now h.dividend (c.is_empty.ensures.0 c.if-is_empty.true) h.in_left)

pub returns : goal.returns
returns c = zero_divisor c.args.a.now c.args.b.now c.has.result (some_member c.args.a.now c.is_empty.result c.is_empty.ensures c.if-is_empty.false) c.has.ensures
