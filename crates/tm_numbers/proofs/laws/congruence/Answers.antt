use Rattle.tm_numbers.proofs.Congruences.{is_by_division}
use Rattle.tm_numbers.proofs.laws.congruence.Goals as goal

pub returns : goal.returns
returns c = is_by_division
