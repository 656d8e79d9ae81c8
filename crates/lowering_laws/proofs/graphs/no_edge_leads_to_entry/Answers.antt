use Rattle.lowering_laws.proofs.Ranges.{leads_on}
use Rattle.lowering_laws.proofs.graphs.no_edge_leads_to_entry.Goals as goal

pub returns : goal.returns
returns c = leads_on
