use Rattle.lowering_laws.proofs.GraphLaws.{none_live}
use Rattle.lowering_laws.proofs.graphs.nothing_live_at_entry.Goals as goal

pub returns : goal.returns
returns c = none_live
