use Rattle.next_action_laws.proofs.Answered.{never_misfit}
use Rattle.next_action_laws.proofs.laws.never_misfit.Goals as goal

pub returns : goal.returns
returns c = never_misfit
