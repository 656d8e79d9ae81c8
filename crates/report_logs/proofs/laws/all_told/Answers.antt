use Rattle.report_logs.proofs.ToldOnce.{told_whole}
use Rattle.report_logs.proofs.laws.all_told.Goals as goal

pub returns : goal.returns
returns c = told_whole
