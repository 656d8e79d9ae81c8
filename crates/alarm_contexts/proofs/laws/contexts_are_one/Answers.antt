use Rattle.alarm_contexts.proofs.One.{one_list}
use Rattle.alarm_contexts.proofs.laws.contexts_are_one.Goals as goal

pub returns : goal.returns
returns c = one_list
