use Rattle.congruence_dom.proofs.Quotients.{shl_from_holds, shl_from_grows}
use Rattle.congruence_dom.proofs.laws.shl_from.Goals as goal

pub returns : goal.returns
returns c = record { holds = shl_from_holds; grows = shl_from_grows }
