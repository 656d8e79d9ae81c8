use Rattle.next_action_laws.proofs.Answered.{elements_stand}
use Rattle.next_action_laws.proofs.laws.elements_stand.Goals as goal

pub returns : goal.returns
returns c = elements_stand
