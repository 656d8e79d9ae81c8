use Rattle.concrete_steps.proofs.Reached.{held_apart}
use Rattle.concrete_steps.proofs.laws.held_apart.Goals as goal

pub returns : goal.returns
returns c = held_apart
