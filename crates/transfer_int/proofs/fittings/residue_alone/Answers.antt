use Rattle.std.proofs.Common.{arith}
use Rattle.std.proofs.lemmas.Int.{ints, to_z-of_z}
use Rattle.transfer_int.proofs.Fitted.{residue_in}
use Rattle.transfer_int.proofs.fittings.residue_alone.Goals as goal

pub returns : goal.returns
returns c =
    let low = to_z-of_z _ _ c.ranges.lo in
    let high = to_z-of_z _ _ c.ranges.hi in
    let kept = to_z-of_z _ _ c.ranges.residue in
    rw kept (residue_in c.args.lo c.args.hi c.args.residue (omega (arith, ints, low, kept, c.if-residue-lo.false)) (omega (arith, ints, high, kept, c.if-hi-residue.false)))
