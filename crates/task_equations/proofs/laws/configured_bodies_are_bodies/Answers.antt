use Rattle.task_equations.proofs.ConfiguredBodies.{configured_body}
use Rattle.task_equations.proofs.laws.configured_bodies_are_bodies.Goals as goal

pub returns : goal.returns
returns c = configured_body
