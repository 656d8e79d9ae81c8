use Rattle.report_pages.proofs.Listed.{all_listed}
use Rattle.report_pages.proofs.laws.all_listed.Goals as goal

pub returns : goal.returns
returns c = all_listed
