use Rattle.tm_typed.specs.TypedFiles.{typed_function_tree}
use Rattle.tm_laid.specs.Layouts.{laid_tree}
use Rattle.path_origins.specs.Opens.{is_among}
use Rattle.path_origins.specs.Shown.{sizes_in}
use Rattle.path_origins.proofs.Arms.{path_walked}
use Rattle.path_origins.proofs.bodies.noted_path.Goals as goal

pub returns-in_ok-walk_function-in-Some : goal.returns-in_ok-walk_function-in-Some
returns-in_ok-walk_function-in-Some c =
    path_walked (laid_tree c.args.laid.now) (is_among c.args.opens.now) (sizes_in c.args.sizes.now) c.args.path
    (typed_function_tree c.in-Some.function.now) c.no_notes-to.result c.walk_function.new.to c.in-Some.ensures
    c.no_notes-to.ensures c.in_ok-walk_function-in-Some.ensures
