use Rattle.congruence_dom.proofs.Congruences.{rem_holds, rem_grows}
use Rattle.congruence_dom.proofs.laws.rem.Goals as goal

pub returns : goal.returns
returns c = record { holds = rem_holds; grows = rem_grows }
