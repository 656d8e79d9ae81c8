use Rattle.cell_layout.proofs.PathTrees.{intervals}
use Rattle.cell_layout.proofs.laws.paths_are_intervals.Goals as goal

pub returns : goal.returns
returns c = intervals
