use Rattle.std.proofs.Common.{int_lt, true}
use Rattle.transfer_int.proofs.Comparing.{no_pair_left, no_pair_right}
use Rattle.transfer_int.proofs.comparisons.may_be_less.Goals as goal

pub returns-then-is_empty : goal.returns-then-is_empty
returns-then-is_empty c = no_pair_left int_lt true c.args.a.now c.args.b.now (c.is_empty.ensures.0 c.if-is_empty.true)

pub returns-then-is_empty-2 : goal.returns-then-is_empty-2
returns-then-is_empty-2 c = no_pair_right int_lt true c.args.a.now c.args.b.now (c.is_empty-2.ensures.0 c.if-is_empty-2.true)
