use Rattle.program_equations.specs.laws.WholeTables.{whole_is_one}
use Rattle.program_equations.proofs.laws.wholes_are_one.Goals as goal

pub returns : goal.returns
returns c = whole_is_one
