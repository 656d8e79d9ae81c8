use Rattle.tm_typed.specs.TypedStatements.{as_typed_trees}
use Rattle.body_builder.specs.Fragments.{tree_in, so_far}
use Rattle.statement_builder.specs.reading.Statements.{reached}
use Rattle.statement_builder.proofs.StatementLaw.{statements_built}
use Rattle.statement_builder.proofs.statements.build_statements.Goals as goal

pub returns : goal.returns
unfolding reached
returns c =
    let laid = tree_in c.args.here.now.laid.now in
    statements_built laid c.args.here.now.depth c.args.here.now.path (as_typed_trees c.args.statements.now)
    (so_far laid c.args.to.now) (so_far laid c.build_block.new.to) c.build_block.new.passed c.new.result.items
    c.new.ensures.items c.in_ok-build_block.ensures
