use Rattle.progress_laws.proofs.Progress.{runs_end_at_rest}
use Rattle.progress_laws.proofs.laws.runs_end_at_rest.Goals as goal

pub returns : goal.returns
returns c = runs_end_at_rest
