use Rattle.program_laws.proofs.ThresholdEnds.{have_ends}
use Rattle.program_laws.proofs.laws.thresholds_have_ends.Goals as goal

pub returns : goal.returns
returns c = have_ends
