use Rattle.std.proofs.Common.{rules}
use Rattle.cell_placings.specs.OwnerTrees.{tree_of}
use Rattle.cell_placings.proofs.Walking.{begun}
use Rattle.cell_placings.proofs.placings.walked_histories.Goals as goal

pub walk-requires-clause-walked : goal.walk-requires-clause-walked
walk-requires-clause-walked c = begun (tree_of c.args.owners.now) c.requires _ _ (search rules) (search rules)
