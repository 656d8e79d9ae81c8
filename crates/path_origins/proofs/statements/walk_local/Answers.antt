use Rattle.std.proofs.Common.{◌≡◌, refl, ap}
use Rattle.std.proofs.lemmas.Result.{on_ok_weaker}
use Rattle.tm_typed.specs.TypedStatements.{local_tree}
use Rattle.tm_laid.specs.declared.objects.LaidObject.{LaidObject}
use Rattle.tm_laid.specs.Layouts.{laid_tree}
use Rattle.body_builder.specs.Fragments.{tree_in}
use Rattle.path_origins.specs.declared.origins.Life.{Life}
use Rattle.path_origins.specs.Opens.{is_among}
use Rattle.path_origins.specs.Shown.{shown, sizes_in}
use Rattle.path_origins.specs.reading.Walks.{life_added}
use Rattle.path_origins.proofs.Cells.{declared_noted}
use Rattle.path_origins.proofs.statements.walk_local.Goals as goal

pub returns : goal.returns
unfolding tree_in
returns c =
    let laid = laid_tree c.args.here.now.laid.now in
    let is_open = is_among c.args.here.now.opens.now in
    let sizes = sizes_in c.args.here.now.sizes.now in
    let end = c.walk_initialiser.new.to in
    let life : Life = record {
      object = c.in_ok-object.object;
      place = c.object_at.result.place;
      begins = c.args.to.now.size;
      scope = c.since-scope.result;
      initialiser = c.in_ok-initialiser.initialiser;
    } in
    on_ok_weaker c.note_life.result (λ (k : shown c.note_life.new.to ≡ life_added life (shown end)).
    declared_noted laid is_open sizes c.args.here.now.path (local_tree c.args.local.now) c.in_ok-object.object
    c.object_at.result.place c.since-scope.result c.in_ok-initialiser.initialiser life c.args.to.now c.note.new.to
    end c.note_life.new.to c.in_ok-object.ensures (ap (λ (o : LaidObject). o.place) c.object_at.ensures)
    c.in_ok-note.ensures
    c.since-scope.ensures.first c.since-scope.ensures.end c.in_ok-initialiser.ensures.noted
    c.in_ok-initialiser.ensures.span refl k) c.note_life.ensures
