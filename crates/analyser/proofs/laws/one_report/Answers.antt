use Rattle.analyser.proofs.OneReport.{one_report}
use Rattle.analyser.proofs.laws.one_report.Goals as goal

pub returns : goal.returns
returns c = one_report
