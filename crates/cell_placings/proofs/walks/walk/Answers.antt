use Rattle.cell_placings.specs.OwnerTrees.{tree_of}
use Rattle.cell_placings.proofs.Walking.{timed}
use Rattle.cell_placings.proofs.walks.walk.Goals as goal

pub returns-then-is_none : goal.returns-then-is_none
returns-then-is_none c = λ e.
    timed (tree_of c.args.owners.now) c.requires.tree c.loop-time.node c.loop-time.time c.loop-time.times
    c.loop-time.histories c.loop-time.invariant

pub returns : goal.returns
returns c = λ e.
    timed (tree_of c.args.owners.now) c.requires.tree c.loop-time.node c.loop-time.time c.loop-time.times
    c.loop-time.histories c.loop-time.invariant
