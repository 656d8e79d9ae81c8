use Rattle.std.proofs.Common.{map}
use Rattle.tm_typed.specs.TypedStatements.{local_tree}
use Rattle.body_builder.specs.Fragments.{tree_in, so_far}
use Rattle.statement_builder.specs.reading.Locals.{locals_in}
use Rattle.statement_builder.proofs.Cells.{locals_last}
use Rattle.statement_builder.proofs.LocalLaw.{locals_built}
use Rattle.statement_builder.proofs.locals.build_locals.Goals as goal

pub returns : goal.returns
returns c =
    let laid = tree_in c.args.here.now.laid.now in
    let depth = c.args.here.now.depth in
    let path = c.args.here.now.path in
    let ls = map local_tree c.args.locals.now in
    let b = so_far laid c.args.to.now in
    let n = so_far laid c.loop-local.to in
    locals_built laid depth path ls b n
    (locals_last laid depth path c.args.locals.now c.loop-local.local-index n (locals_in laid depth path ls b)
    c.loop-local-test.false c.loop-local.invariant)
