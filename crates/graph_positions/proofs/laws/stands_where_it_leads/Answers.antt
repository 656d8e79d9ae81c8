use Rattle.graph_positions.proofs.Ends.{stands_as}
use Rattle.graph_positions.proofs.laws.stands_where_it_leads.Goals as goal

pub returns : goal.returns
returns c = λ laid g next_is run answers node m n reaches is. stands_as laid g next_is run answers node m n reaches is
