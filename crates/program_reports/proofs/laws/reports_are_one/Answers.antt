use Rattle.program_reports.proofs.One.{one_report}
use Rattle.program_reports.proofs.laws.reports_are_one.Goals as goal

pub returns : goal.returns
returns c = one_report
