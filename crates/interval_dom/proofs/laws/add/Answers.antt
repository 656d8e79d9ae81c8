use Rattle.interval_dom.proofs.Sums.{add_holds, add_grows}
use Rattle.interval_dom.proofs.laws.add.Goals as goal

pub returns : goal.returns
returns c = record { holds = add_holds; grows = add_grows }
