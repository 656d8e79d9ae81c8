use Rattle.concrete_steps.proofs.Refusals.{refusals_change_nothing}
use Rattle.concrete_steps.proofs.laws.refusals_change_nothing.Goals as goal

pub returns : goal.returns
returns c = refusals_change_nothing
