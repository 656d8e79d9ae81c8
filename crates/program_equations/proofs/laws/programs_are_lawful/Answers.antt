use Rattle.program_equations.specs.laws.Lawful.{program_is_lawful}
use Rattle.program_equations.proofs.laws.programs_are_lawful.Goals as goal

pub returns : goal.returns
returns c = program_is_lawful
