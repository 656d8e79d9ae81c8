use Rattle.next_action_laws.proofs.ProperWorlds.{worlds_are_proper}
use Rattle.next_action_laws.proofs.laws.worlds_are_proper.Goals as goal

pub returns : goal.returns
returns c = worlds_are_proper
