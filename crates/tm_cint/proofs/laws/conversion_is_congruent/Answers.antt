use Rattle.tm_cint.proofs.Values.{converted_value-congruent}
use Rattle.tm_cint.proofs.laws.conversion_is_congruent.Goals as goal

pub returns : goal.returns
returns c = converted_value-congruent
