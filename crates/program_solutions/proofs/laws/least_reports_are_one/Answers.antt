use Rattle.program_solutions.proofs.OneReport.{one_least_report}
use Rattle.program_solutions.proofs.laws.least_reports_are_one.Goals as goal

pub returns : goal.returns
returns c = one_least_report
