use Rattle.typed_file_laws.proofs.TypedBodies.{bodies_are_well_formed}
use Rattle.typed_file_laws.proofs.bodies.bodies_are_well_formed.Goals as goal

pub returns : goal.returns
returns c = bodies_are_well_formed
