use Rattle.congruence_dom.proofs.Congruences.{is_by_division}
use Rattle.congruence_dom.proofs.laws.inclusion.Goals as goal

pub returns : goal.returns
returns c = is_by_division
