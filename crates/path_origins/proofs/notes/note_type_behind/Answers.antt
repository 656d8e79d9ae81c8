use Rattle.std.proofs.lemmas.Result.{on_ok_weaker}
use Rattle.path_origins.specs.Noted.{one}
use Rattle.path_origins.specs.Shown.{shown}
use Rattle.path_origins.proofs.Laws.{then_behind}
use Rattle.path_origins.proofs.notes.note_type_behind.Goals as goal

pub returns : goal.returns
returns c = record {
  noted = on_ok_weaker c.note_type.result (then_behind (shown c.args.to.now) (shown c.note.new.to)
      (shown c.note_type.new.to) (one c.args.place c.args.first) (one c.args.place c.args.form) c.in_ok-note.ensures)
      c.note_type.ensures.noted;
  typed = c.note_type.ensures.typed;
}
