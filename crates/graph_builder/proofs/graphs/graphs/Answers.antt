use Rattle.std.proofs.Common.{arith, subst}
use Rattle.body_builder.specs.Fragments.{tree_in}
use Rattle.graph_builder.specs.reading.Finding.{IsOne}
use Rattle.graph_builder.proofs.GraphPieces.{all_graphs, too_many}
use Rattle.graph_builder.proofs.graphs.graphs.Goals as goal

pub returns-in_default : goal.returns-in_default
returns-in_default c =
    let laid = tree_in c.args.paths.now.laid.now in
    too_many c.args.scale laid c.loop-body.body (omega (arith, c.loop-body-test.true, c.in_ok-count.ensures))
    (subst (λ o. IsOne c.args.scale laid c.loop-body.body o) c.in_default.is c.in_ok-one.ensures)

pub returns : goal.returns
returns c =
    let laid = tree_in c.args.paths.now.laid.now in
    all_graphs c.args.scale laid c.loop-body.body c.loop-body.graphs.items c.loop-body.invariant
    (omega (arith, c.loop-body-test.false, c.loop-body.auto.body-end, c.in_ok-count.ensures))
