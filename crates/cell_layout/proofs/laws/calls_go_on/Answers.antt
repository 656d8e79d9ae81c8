use Rattle.cell_layout.proofs.PathCalls.{calls_lead}
use Rattle.cell_layout.proofs.laws.calls_go_on.Goals as goal

pub returns : goal.returns
returns c = calls_lead
