use Rattle.next_action_laws.proofs.Answered.{actions_are_proper}
use Rattle.next_action_laws.proofs.laws.actions_are_proper.Goals as goal

pub returns : goal.returns
returns c = actions_are_proper
