use Rattle.concrete_steps.proofs.Refusals.{errors_end_runs}
use Rattle.concrete_steps.proofs.laws.errors_end_runs.Goals as goal

pub returns : goal.returns
returns c = errors_end_runs
