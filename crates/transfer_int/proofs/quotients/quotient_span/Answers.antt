use Rattle.std.proofs.Common.{Some}
use Rattle.transfer_int.proofs.Dividing.{above_alone, below_alone, on_both_sides, type_bounds}
use Rattle.transfer_int.proofs.quotients.quotient_span.Goals as goal

pub returns-in-None : goal.returns-in-None
returns-in-None c = above_alone _ _ (type_bounds c.args.ty _ c.requires.right) _ c.in-None.ensures c.quotients_by-above.ensures

pub returns-in-None-above : goal.returns-in-None-above
returns-in-None-above c = below_alone _ _ (type_bounds c.args.ty _ c.requires.right) (Some c.in-Some.p) c.in-None-above.ensures c.in-Some.ensures

pub returns-in-Some-above : goal.returns-in-Some-above
returns-in-Some-above c = on_both_sides _ _ (type_bounds c.args.ty _ c.requires.right) c.in-Some.p c.in-Some-above.q c.joined.result c.in-Some.ensures c.in-Some-above.ensures c.joined.ensures.low c.joined.ensures.high
