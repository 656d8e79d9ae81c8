use Rattle.std.proofs.Common.{◌≡◌, List, length, false, refl, subst, arith}
use Rattle.tm_typed.specs.declared.statements.TypedStatement.{TypedStatement}
use Rattle.tm_typed.specs.TypedStatements.{as_typed_trees}
use Rattle.tm_typed.specs.TypedFiles.{typed_body_tree}
use Rattle.tm_laid.specs.Layouts.{laid_tree}
use Rattle.body_builder.specs.Fragments.{tree_in}
use Rattle.path_origins.specs.declared.statements.Ways.{Ways}
use Rattle.path_origins.specs.Opens.{is_among}
use Rattle.path_origins.specs.Shown.{sizes_in}
use Rattle.path_origins.specs.Statements.{statements}
use Rattle.path_origins.specs.reading.Walks.{IsLeftBehind}
use Rattle.path_origins.proofs.Arms.{body_walked}
use Rattle.path_origins.proofs.bodies.walk_body.Goals as goal

pub returns : goal.returns
unfolding tree_in
returns c =
    let laid = laid_tree c.args.here.now.laid.now in
    let is_open = is_among c.args.here.now.opens.now in
    let sizes = sizes_in c.args.here.now.sizes.now in
    let path = c.args.here.now.path in
    let a = c.args.to.now in
    let w : Ways = record { breaks = 0; continues = 0; returns = 0 } in
    let v = c.walk_statements.new.ways in
    let outer : c.len-outer.result ≡ length a.unended.items =
    omega (arith, c.len-outer.ensures, a.unended.ok.0) in
    let own = subst (λ (ys : List TypedStatement). IsLeftBehind a c.walk_statements.new.to w v
    (statements laid is_open sizes path false (as_typed_trees ys))) c.deref.ensures.value
    c.in_ok-walk_statements.ensures in
    body_walked laid is_open sizes path c.args.place (typed_body_tree c.args.body.now) c.result_type.result
    c.is_task_path-is_task.result c.len-outer.result c.end_scopes.result a c.walk_statements.new.to c.walk_fall.new.to
    c.walk_closing.new.to c.end_scopes.new.to w v refl outer own c.result_type.ensures c.in_ok-walk_fall.ensures
    c.is_task_path-is_task.ensures c.in_ok-walk_closing.ensures c.end_scopes.ensures
