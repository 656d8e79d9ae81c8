use Rattle.program_equations.specs.laws.Fitting.{body_is_lawful}
use Rattle.program_equations.proofs.laws.equations_are_lawful.Goals as goal

pub returns : goal.returns
returns c = body_is_lawful
