use Rattle.typed_file_laws.proofs.TypedBodies.{numbers_are_of_types}
use Rattle.typed_file_laws.proofs.bodies.numbers_are_of_integer_types.Goals as goal

pub returns : goal.returns
returns c = numbers_are_of_types
