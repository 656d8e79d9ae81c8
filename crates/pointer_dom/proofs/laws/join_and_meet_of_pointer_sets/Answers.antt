use Rattle.pointer_dom.proofs.Meaning.{in_join, in_meet}
use Rattle.pointer_dom.proofs.laws.join_and_meet_of_pointer_sets.Goals as goal

pub returns-clause-join : goal.returns-clause-join
returns-clause-join c = in_join

pub returns-clause-meet : goal.returns-clause-meet
returns-clause-meet c = in_meet
