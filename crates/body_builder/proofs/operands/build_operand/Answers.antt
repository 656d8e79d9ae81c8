use Rattle.tm_typed.specs.TypedTrees.{rvalue_tree}
use Rattle.body_builder.specs.Fragments.{tree_in, so_far}
use Rattle.body_builder.proofs.ExpressionLaw.{value_built}
use Rattle.body_builder.proofs.operands.build_operand.Goals as goal

pub returns : goal.returns
returns c =
    let laid = tree_in c.args.here.now.laid.now in
    let found = c.in_ok-found.ensures in
    value_built laid c.args.here.now.depth c.args.here.now.path (rvalue_tree c.args.rvalue.now)
    (so_far laid c.args.to.now) (so_far laid c.build_value.new.to) c.in_ok-found.found.temp (found.0, found.1)
