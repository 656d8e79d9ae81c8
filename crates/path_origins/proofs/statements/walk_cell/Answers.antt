use Rattle.std.proofs.Common.{map, not, ap}
use Rattle.std.proofs.lemmas.Result.{on_ok_weaker}
use Rattle.tm_typed.specs.TypedStatements.{given_tree}
use Rattle.tm_laid.specs.Layouts.{laid_tree}
use Rattle.path_origins.specs.declared.origins.Form.TheVariants as Forms
use Rattle.path_origins.specs.Noted.{one}
use Rattle.path_origins.specs.Opens.{is_among}
use Rattle.path_origins.specs.Shown.{sizes_in}
use Rattle.path_origins.specs.reading.Walks.{IsBehind}
use Rattle.path_origins.proofs.Cells.{cell_noted}
use Rattle.path_origins.proofs.statements.walk_cell.Goals as goal

pub returns : goal.returns
returns c =
    let laid = laid_tree c.args.here.now.laid.now in
    let is_open = is_among c.args.here.now.opens.now in
    let sizes = sizes_in c.args.here.now.sizes.now in
    let at = c.args.at in
    let value = c.walk_cell_value.new.to in
    on_ok_weaker c.note-2.result (λ (k : IsBehind value c.note-2.new.to (one at.place Forms.Initialise)).
    cell_noted laid is_open sizes c.args.here.now.path at.object at.of at.place c.args.number
    (map given_tree c.args.given.now) (not c.is_alone-has_part.result) c.is_given.result c.args.to.now c.note.new.to
    c.note_if.new.to value c.note-2.new.to (ap not c.is_alone-has_part.ensures) c.is_given.ensures c.in_ok-note.ensures
    c.in_ok-note_if.ensures c.in_ok-walk_cell_value.ensures k) c.note-2.ensures
