use Rattle.configured_laws.proofs.SomeFacts.{facts_of_graphs}
use Rattle.configured_laws.proofs.laws.facts_of_graphs.Goals as goal

pub returns : goal.returns
returns c = facts_of_graphs
