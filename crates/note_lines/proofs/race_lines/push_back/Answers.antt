use Rattle.std.proofs.Common.{ap, ◌∙◌, ◌++◌}
use Rattle.std.specs.Prelude.{codes}
use Rattle.note_lines.specs.Names.{names_below}
use Rattle.note_lines.specs.RaceTexts.{racing_text}
use Rattle.note_lines.proofs.Pieces.{three}
use Rattle.note_lines.proofs.race_lines.push_back.Goals as goal

pub returns : goal.returns
returns c =
    let bytes = c.args.bytes.now in
    let mutexes = c.args.names.now.mutexes.items in
    let access = c.args.access in
    three c.args.text.now.items (codes " free") (names_below bytes mutexes access.free 16) (racing_text access.racing)
    c.in_ok-push_bytes.ensures
    (c.in_ok-push_names.ensures ∙ ap (λ ns. c.push_bytes.new.text.items ++ names_below bytes ns access.free 16)
    c.deref.ensures.value)
    (c.in_ok-push_bytes-2.ensures ∙ ap (λ x. c.push_names.new.text.items ++ x) c.racing_text.ensures)
