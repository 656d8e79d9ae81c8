use Rattle.std.proofs.Common.{◌≡◌, length, arith}
use Rattle.tm_typed.specs.TypedTrees.{rvalue_tree}
use Rattle.tm_laid.specs.Layouts.{laid_tree}
use Rattle.body_builder.specs.Fragments.{tree_in}
use Rattle.path_origins.specs.Opens.{is_among}
use Rattle.path_origins.specs.Shown.{sizes_in}
use Rattle.path_origins.proofs.Arms.{returned_noted}
use Rattle.path_origins.proofs.statements.walk_returned.Goals as goal

pub returns : goal.returns
unfolding tree_in
returns c =
    let laid = laid_tree c.args.here.now.laid.now in
    let is_open = is_among c.args.here.now.opens.now in
    let sizes = sizes_in c.args.here.now.sizes.now in
    let a = c.args.to.now in
    let pending : c.len-pending.result ≡ length a.pending.items =
    omega (arith, c.len-pending.ensures, a.pending.ok.0) in
    returned_noted laid is_open sizes c.args.here.now.path (rvalue_tree c.args.rvalue.now) c.in_ok-given.given
    c.result_type.result c.rvalue_place-place.result c.len-pending.result c.note.result a c.walk_value.new.to
    c.sequence.new.to c.note_passing.new.to c.note.new.to c.rvalue_place-place.ensures pending
    c.in_ok-given.ensures.noted c.sequence.ensures c.in_ok-given.ensures.given c.result_type.ensures
    c.in_ok-note_passing.ensures c.note.ensures
