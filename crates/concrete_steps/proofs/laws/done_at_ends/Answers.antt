use Rattle.concrete_steps.proofs.Reached.{done_at_ends}
use Rattle.concrete_steps.proofs.laws.done_at_ends.Goals as goal

pub returns : goal.returns
returns c = done_at_ends
