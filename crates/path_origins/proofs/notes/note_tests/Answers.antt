use Rattle.std.proofs.lemmas.Result.{on_ok_weaker}
use Rattle.path_origins.specs.Noted.{one}
use Rattle.path_origins.specs.Shown.{shown}
use Rattle.path_origins.proofs.Laws.{then_behind}
use Rattle.path_origins.proofs.notes.note_tests.Goals as goal

pub returns : goal.returns
returns c =
    let each = one c.args.place c.args.form in
    on_ok_weaker c.note-2.result (then_behind (shown c.args.to.now) (shown c.note.new.to) (shown c.note-2.new.to) each
    each c.in_ok-note.ensures) c.note-2.ensures
