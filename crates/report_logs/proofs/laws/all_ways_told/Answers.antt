use Rattle.report_logs.proofs.ToldOnce.{ways_whole}
use Rattle.report_logs.proofs.laws.all_ways_told.Goals as goal

pub returns : goal.returns
returns c = ways_whole
