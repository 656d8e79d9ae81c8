use Rattle.report_json.proofs.OneReport.{one_report}
use Rattle.report_json.proofs.laws.one_report.Goals as goal

pub returns : goal.returns
returns c = one_report
