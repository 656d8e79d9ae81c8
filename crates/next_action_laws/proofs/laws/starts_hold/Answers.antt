use Rattle.next_action_laws.proofs.StartingCells.{starts_hold}
use Rattle.next_action_laws.proofs.laws.starts_hold.Goals as goal

pub returns : goal.returns
returns c = starts_hold
