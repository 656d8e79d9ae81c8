use Rattle.edge_actions.proofs.ActionForms.{edge_is}
use Rattle.edge_actions.proofs.laws.edges_are_actions.Goals as goal

pub returns : goal.returns
returns c = edge_is
