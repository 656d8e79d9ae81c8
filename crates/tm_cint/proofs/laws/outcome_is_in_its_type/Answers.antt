use Rattle.tm_cint.proofs.Values.{outcome-in}
use Rattle.tm_cint.proofs.laws.outcome_is_in_its_type.Goals as goal

pub returns : goal.returns
returns c = outcome-in
