use Rattle.cell_placings.specs.OwnerTrees.{tree_of}
use Rattle.cell_placings.proofs.TreeFacts.{placed_cells, placed_tree}
use Rattle.cell_placings.proofs.Walking.{tabled}
use Rattle.cell_placings.proofs.placings.checked_placing.Goals as goal

pub walked_histories-requires : goal.walked_histories-requires
walked_histories-requires c =
    placed_tree c.args.graph.now (tree_of c.args.owners) (c.are_placed.ensures.0 c.if-not-are_placed.false)

pub invariant_of-result : goal.invariant_of-result
invariant_of-result c =
    let timed = rw c.in-Some.is at c.in_ok-walked.ensures in
    let are = rw c.in-Some-2.is at c.in_ok-all_times.ensures in
    tabled (tree_of c.args.owners)
    (placed_tree c.args.graph.now (tree_of c.args.owners) (c.are_placed.ensures.0 c.if-not-are_placed.false))
    c.in-Some.walked.times.items c.in-Some.walked.histories.items timed c.in-Some-2.times.items (cc are)

pub returns-in-Some-2-clause-placed : goal.returns-in-Some-2-clause-placed
returns-in-Some-2-clause-placed c =
    placed_cells c.args.graph.now (tree_of c.args.owners) (c.are_placed.ensures.0 c.if-not-are_placed.false)
