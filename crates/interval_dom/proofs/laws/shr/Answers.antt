use Rattle.interval_dom.proofs.Floors.{shr_holds, shr_grows}
use Rattle.interval_dom.proofs.laws.shr.Goals as goal

pub returns : goal.returns
returns c = record { holds = shr_holds; grows = shr_grows }
