use Rattle.std.proofs.Common.{map}
use Rattle.tm_typed.specs.TypedStatements.{given_tree}
use Rattle.body_builder.specs.Fragments.{tree_in, so_far}
use Rattle.statement_builder.proofs.Cells.{cells_more}
use Rattle.statement_builder.proofs.locals.build_cells.Goals as goal

pub loop-number-preserved : goal.loop-number-preserved
loop-number-preserved c =
    let laid = tree_in c.args.here.now.laid.now in
    let path = c.args.here.now.path in
    let gs = map given_tree c.loop-number.rest.now in
    cells_more laid c.args.here.now.depth path c.args.object c.args.place c.cells_of-number-end.result
    c.loop-number.number _ _ c.is_given-found.result gs (map given_tree c.rest_of-rest.result.now)
    (so_far laid c.loop-number.to) (so_far laid c.build_cell.new.to) _ c.loop-number-test.true
    (c.is_alone.ensures path) c.in_ok-scalar_at.ensures c.is_given-found.ensures c.rest_of-rest.ensures
    c.in_ok-build_cell.ensures c.loop-number.invariant
