use Rattle.cell_placings.specs.OwnerTrees.{tree_of}
use Rattle.cell_placings.specs.reading.Walks.{IsWalked}
use Rattle.cell_placings.proofs.walks.walk.Given as goal

abbrev pub invariant-loop-time : goal.invariant-loop-time
invariant-loop-time l = IsWalked (tree_of l.owners) l.node l.time l.times l.histories
