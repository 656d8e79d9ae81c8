use Rattle.progress_laws.proofs.Progress.{actions_are_answerable}
use Rattle.progress_laws.proofs.laws.actions_are_answerable.Goals as goal

pub returns : goal.returns
returns c = actions_are_answerable
