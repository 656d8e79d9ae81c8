use Rattle.next_action_laws.proofs.RegularFiles.{bodies_are_regular}
use Rattle.next_action_laws.proofs.laws.bodies_are_regular.Goals as goal

pub returns : goal.returns
returns c = bodies_are_regular
