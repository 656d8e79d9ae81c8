use Rattle.congruence_dom.proofs.Congruences.{mul_holds, mul_grows}
use Rattle.congruence_dom.proofs.laws.mul.Goals as goal

pub returns : goal.returns
returns c = record { holds = mul_holds; grows = mul_grows }
