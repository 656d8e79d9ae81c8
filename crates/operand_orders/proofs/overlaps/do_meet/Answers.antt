use Rattle.operand_orders.proofs.Pairing.{meet_is}
use Rattle.operand_orders.proofs.overlaps.do_meet.Goals as goal

pub returns : goal.returns
returns c =
    let same = meet_is c.args.one.now c.args.few c.args.other.now c.args.many c.within.result.now c.within.ensures in
    (λ t. same.0 (c.are_touched.ensures.0 t), λ d. c.are_touched.ensures.1 (same.1 d))
