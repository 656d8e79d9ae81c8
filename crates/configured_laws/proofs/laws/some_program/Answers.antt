use Rattle.configured_laws.proofs.SomePrograms.{some_program}
use Rattle.configured_laws.proofs.laws.some_program.Goals as goal

pub returns : goal.returns
returns c = some_program
