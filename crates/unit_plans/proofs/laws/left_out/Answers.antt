use Rattle.unit_plans.proofs.LeftOutLaw.{left_rightly}
use Rattle.unit_plans.proofs.laws.left_out.Goals as goal

pub returns : goal.returns
returns c = λ all. left_rightly all
