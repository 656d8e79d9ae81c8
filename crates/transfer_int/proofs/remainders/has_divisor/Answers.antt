use Rattle.transfer_int.proofs.Reducing.{divisor_iff}
use Rattle.transfer_int.proofs.remainders.has_divisor.Goals as goal

pub returns : goal.returns
returns c = divisor_iff _ _ (rw c.one.ensures at c.below.ensures)
