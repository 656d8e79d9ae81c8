use Rattle.concrete_steps.proofs.Moving.{priorities_stay}
use Rattle.concrete_steps.proofs.laws.priorities_stay.Goals as goal

pub returns : goal.returns
returns c = priorities_stay
