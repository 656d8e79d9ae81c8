use Rattle.certificate_check.proofs.Sourced.{lists_all}
use Rattle.certificate_check.proofs.laws.reports_list_all.Goals as goal

pub returns : goal.returns
returns c = lists_all
