use Rattle.congruence_dom.proofs.Congruences.{add_holds, add_grows}
use Rattle.congruence_dom.proofs.laws.add.Goals as goal

pub returns : goal.returns
returns c = record { holds = add_holds; grows = add_grows }
