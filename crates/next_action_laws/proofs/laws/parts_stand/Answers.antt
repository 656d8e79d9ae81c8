use Rattle.next_action_laws.proofs.Answered.{parts_stand}
use Rattle.next_action_laws.proofs.laws.parts_stand.Goals as goal

pub returns : goal.returns
returns c = parts_stand
