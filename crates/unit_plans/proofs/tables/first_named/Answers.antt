use Rattle.std.proofs.Common.{◌∙◌}
use Rattle.unit_plans.proofs.tables.first_named.Goals as goal

pub returns-in-Some : goal.returns-in-Some
returns-in-Some c = λ names is. c.in-Some.ensures.value ∙ is.same c.args.name

pub returns-in-None : goal.returns-in-None
returns-in-None c = λ names is. c.in-None.ensures.value ∙ is.same c.args.name
