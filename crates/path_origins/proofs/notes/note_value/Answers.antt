use Rattle.std.proofs.lemmas.Result.{on_ok_weaker}
use Rattle.path_origins.specs.Noted.{one}
use Rattle.path_origins.specs.Shown.{shown}
use Rattle.path_origins.specs.reading.Walks.{end_by}
use Rattle.path_origins.proofs.Laws.{then_behind}
use Rattle.path_origins.proofs.notes.note_value.Goals as goal

pub returns : goal.returns
returns c = record {
  noted = on_ok_weaker c.end_with.result (then_behind (shown c.args.to.now) (shown c.note.new.to)
      (shown c.end_with.new.to) (one c.args.place c.args.edge) (end_by c.args.wanted c.args.pointer c.args.place)
      c.in_ok-note.ensures) c.end_with.ensures.noted;
  given = c.end_with.ensures.given;
}
