use Rattle.program_equations.specs.laws.Passing.{fitting, passes_rise}
use Rattle.program_equations.specs.laws.StoresFit.{bottom}
use Rattle.program_equations.proofs.laws.passes_are_lawful.Goals as goal

pub returns : goal.returns
returns c = record { fitting = fitting; bottom = λ p is. bottom p.marks; monotone = passes_rise }
