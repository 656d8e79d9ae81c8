use Rattle.congruence_dom.proofs.Quotients.{shr_holds, shr_grows}
use Rattle.congruence_dom.proofs.laws.shr.Goals as goal

pub returns : goal.returns
returns c = record { holds = shr_holds; grows = shr_grows }
