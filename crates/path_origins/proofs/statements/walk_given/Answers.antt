use Rattle.std.proofs.Common.{true, ap, ◌∙◌}
use Rattle.tm_typed.specs.TypedTrees.{rvalue_tree}
use Rattle.tm_typed.specs.TypedStatements.{given_tree}
use Rattle.tm_laid.specs.Layouts.{laid_tree}
use Rattle.body_builder.specs.concrete_steps.Places.{rvalue_place}
use Rattle.path_origins.specs.Types.{given}
use Rattle.path_origins.specs.Noted.{behind}
use Rattle.path_origins.specs.Expressions.{walked}
use Rattle.path_origins.specs.Opens.{is_among}
use Rattle.path_origins.specs.Shown.{shown, sizes_in}
use Rattle.path_origins.proofs.Cells.{given_cell_noted}
use Rattle.path_origins.proofs.statements.walk_given.Goals as goal

pub returns : goal.returns
returns c =
    let laid = laid_tree c.args.here.now.laid.now in
    let is_open = is_among c.args.here.now.opens.now in
    let sizes = sizes_in c.args.here.now.sizes.now in
    let path = c.args.here.now.path in
    let old = shown c.args.to.now in
    given_cell_noted laid is_open sizes path c.args.of (given_tree c.args.cell.now) c.in_ok-value.value
    c.cell_type.result c.rvalue_place-place.result c.note_passing.result c.args.to.now c.walk_value.new.to
    c.note_passing.new.to
    (c.rvalue_place-place.ensures ∙ ap (λ r. rvalue_place (rvalue_tree r)) c.deref.ensures)
    (c.in_ok-value.ensures.given ∙ ap (λ r. given laid is_open path (rvalue_tree r)) c.deref-2.ensures)
    c.cell_type.ensures
    (c.in_ok-value.ensures.noted
    ∙ ap (λ r. behind old (walked laid is_open sizes path true (rvalue_tree r)).value) c.deref-2.ensures)
    c.note_passing.ensures
