use Rattle.interval_dom.proofs.Remainders.{rem_holds, rem_grows}
use Rattle.interval_dom.proofs.laws.rem.Goals as goal

pub returns : goal.returns
returns c = record { holds = rem_holds; grows = rem_grows }
