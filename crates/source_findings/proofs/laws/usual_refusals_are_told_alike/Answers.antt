use Rattle.source_findings.proofs.Refusals.{usual_refusals_are_told_alike}
use Rattle.source_findings.proofs.laws.usual_refusals_are_told_alike.Goals as goal

pub returns : goal.returns
returns c = usual_refusals_are_told_alike
