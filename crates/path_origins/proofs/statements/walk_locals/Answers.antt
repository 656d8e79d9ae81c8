use Rattle.std.proofs.Common.{◌+◌, map, drop}
use Rattle.tm_typed.specs.TypedStatements.{local_tree}
use Rattle.tm_laid.specs.Layouts.{laid_tree}
use Rattle.path_origins.specs.Opens.{is_among}
use Rattle.path_origins.specs.Shown.{sizes_in}
use Rattle.path_origins.specs.Statements.{declared, all_declared}
use Rattle.path_origins.proofs.Leaving.{yet_first, yet_more, yet_last}
use Rattle.path_origins.proofs.Cells.{locals_more, locals_last}
use Rattle.path_origins.proofs.statements.walk_locals.Goals as goal

pub loop-local-init : goal.loop-local-init
loop-local-init c =
    let laid = laid_tree c.args.here.now.laid.now in
    let is_open = is_among c.args.here.now.opens.now in
    let sizes = sizes_in c.args.here.now.sizes.now in
    yet_first c.args.to.now
    (all_declared laid is_open sizes c.args.here.now.path (map local_tree c.args.locals.now))

pub loop-local-preserved : goal.loop-local-preserved
loop-local-preserved c =
    let laid = laid_tree c.args.here.now.laid.now in
    let is_open = is_among c.args.here.now.opens.now in
    let sizes = sizes_in c.args.here.now.sizes.now in
    let path = c.args.here.now.path in
    let xs = c.args.locals.now in
    let i = c.loop-local.local-index in
    yet_more c.args.to.now c.loop-local.to c.walk_local.new.to
    (all_declared laid is_open sizes path (map local_tree (drop i xs)))
    (all_declared laid is_open sizes path (map local_tree xs))
    (declared laid is_open sizes path (local_tree c.local-item.result))
    (all_declared laid is_open sizes path (map local_tree (drop (i + 1) xs)))
    (locals_more laid is_open sizes path xs i c.local-item.result c.loop-local-test.true c.local-item.is)
    c.in_ok-walk_local.ensures c.loop-local.invariant

pub returns : goal.returns
returns c =
    let laid = laid_tree c.args.here.now.laid.now in
    let is_open = is_among c.args.here.now.opens.now in
    let sizes = sizes_in c.args.here.now.sizes.now in
    let path = c.args.here.now.path in
    let xs = c.args.locals.now in
    let i = c.loop-local.local-index in
    yet_last c.args.to.now c.loop-local.to (all_declared laid is_open sizes path (map local_tree (drop i xs)))
    (all_declared laid is_open sizes path (map local_tree xs))
    (locals_last laid is_open sizes path xs i c.loop-local-test.false) c.loop-local.invariant
