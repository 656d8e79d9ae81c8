use Rattle.concrete_steps.proofs.Moving.{steps_are_moves}
use Rattle.concrete_steps.proofs.laws.steps_are_moves.Goals as goal

pub returns : goal.returns
returns c = steps_are_moves
