use Rattle.congruence_dom.proofs.Quotients.{div_holds, div_grows}
use Rattle.congruence_dom.proofs.laws.div.Goals as goal

pub returns : goal.returns
returns c = record { holds = div_holds; grows = div_grows }
