use Rattle.task_equations.specs.laws.Lawful.{equations_are_lawful}
use Rattle.task_equations.proofs.laws.equations_are_lawful.Goals as goal

pub returns : goal.returns
returns c = equations_are_lawful
