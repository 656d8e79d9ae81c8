use Rattle.std.proofs.lemmas.Int.{to_z-of_z}
use Rattle.transfer_int.proofs.Dividing.{divides_by_rest}
use Rattle.transfer_int.proofs.quotients.divides.Goals as goal

pub returns : goal.returns
returns c = rw (to_z-of_z _ _ c.ranges.d, to_z-of_z _ _ c.ranges.z) (divides_by_rest c.args.d c.args.z c.requires.divisor c.ranges.z)
