use Rattle.congruence_dom.proofs.Quotients.{shl_holds, shl_grows}
use Rattle.congruence_dom.proofs.laws.shl.Goals as goal

pub returns : goal.returns
returns c = record { holds = shl_holds; grows = shl_grows }
