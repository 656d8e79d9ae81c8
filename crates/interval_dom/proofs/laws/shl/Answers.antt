use Rattle.interval_dom.proofs.Floors.{shl_holds, shl_grows}
use Rattle.interval_dom.proofs.laws.shl.Goals as goal

pub returns : goal.returns
returns c = record { holds = shl_holds; grows = shl_grows }
