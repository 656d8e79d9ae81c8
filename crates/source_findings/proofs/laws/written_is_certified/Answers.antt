use Rattle.source_findings.proofs.Certified.{written_is_certified}
use Rattle.source_findings.proofs.laws.written_is_certified.Goals as goal

pub returns : goal.returns
returns c = written_is_certified
