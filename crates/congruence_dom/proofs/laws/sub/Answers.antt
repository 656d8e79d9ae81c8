use Rattle.congruence_dom.proofs.Congruences.{sub_holds, sub_grows}
use Rattle.congruence_dom.proofs.laws.sub.Goals as goal

pub returns : goal.returns
returns c = record { holds = sub_holds; grows = sub_grows }
