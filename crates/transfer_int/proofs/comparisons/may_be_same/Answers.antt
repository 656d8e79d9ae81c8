use Rattle.transfer_int.proofs.Comparing.{common_member}
use Rattle.transfer_int.proofs.comparisons.may_be_same.Goals as goal

pub returns : goal.returns
returns c = common_member c.args.a.now c.args.b.now c.meet.result c.is_empty.result c.meet.ensures c.is_empty.ensures
