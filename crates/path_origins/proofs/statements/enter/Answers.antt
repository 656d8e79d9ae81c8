use Rattle.std.proofs.lemmas.Result.{on_ok_weaker}
use Rattle.tm_typed.specs.TypedTrees.{rvalue_tree}
use Rattle.tm_laid.specs.Layouts.{laid_tree}
use Rattle.path_origins.specs.Opens.{is_among}
use Rattle.path_origins.specs.Shown.{shown, sizes_in}
use Rattle.path_origins.specs.Statements.{skip, test_of}
use Rattle.path_origins.specs.reading.Walks.{IsBehind}
use Rattle.path_origins.proofs.Laws.{then_behind}
use Rattle.path_origins.proofs.statements.enter.Goals as goal

pub returns : goal.returns
returns c =
    let laid = laid_tree c.args.here.now.laid.now in
    let is_open = is_among c.args.here.now.opens.now in
    let sizes = sizes_in c.args.here.now.sizes.now in
    let path = c.args.here.now.path in
    let test = test_of laid is_open sizes path (rvalue_tree c.args.condition.now) in
    on_ok_weaker c.walk_full.result (λ (k : IsBehind c.note.new.to c.walk_full.new.to test).
    then_behind (shown c.args.to.now) (shown c.note.new.to) (shown c.walk_full.new.to)
    (skip laid is_open sizes path) test c.in_ok-note.ensures k) c.walk_full.ensures
