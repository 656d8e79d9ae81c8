use Rattle.lowering.proofs.Own.{clears_own}
use Rattle.lowering.proofs.laws.clears_own.Goals as goal

pub returns : goal.returns
returns c = clears_own
