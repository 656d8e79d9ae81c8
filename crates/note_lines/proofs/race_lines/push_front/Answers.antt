use Rattle.std.proofs.Common.{ap, ◌∙◌, ◌++◌}
use Rattle.std.specs.Prelude.{codes}
use Rattle.tm_terms.specs.Texts.{place_head}
use Rattle.note_lines.specs.Names.{name_at, names_below}
use Rattle.note_lines.specs.RaceTexts.{kind_text}
use Rattle.note_lines.proofs.Pieces.{five}
use Rattle.note_lines.proofs.race_lines.push_front.Goals as goal

pub returns : goal.returns
returns c =
    let bytes = c.args.bytes.now in
    let tasks = c.args.names.now.tasks.items in
    let mutexes = c.args.names.now.mutexes.items in
    let access = c.args.access in
    five c.args.text.now.items (place_head access.place) (name_at bytes tasks access.task) (kind_text access.stores)
    (codes " holds") (names_below bytes mutexes access.held 16)
    (c.in_ok-push_bytes.ensures ∙ ap (λ x. c.args.text.now.items ++ x) (c.as_bytes.ensures.value
    ∙ c.in_ok-head.ensures))
    (c.in_ok-push_bytes-2.ensures ∙ ap (λ x. c.push_bytes.new.text.items ++ x) (c.name_at.ensures
    ∙ ap (λ ns. name_at bytes ns access.task) c.deref.ensures.value))
    (c.in_ok-push_bytes-3.ensures ∙ ap (λ x. c.push_bytes-2.new.text.items ++ x) c.kind_text.ensures)
    c.in_ok-push_bytes-4.ensures
    (c.in_ok-push_names.ensures ∙ ap (λ ns. c.push_bytes-4.new.text.items ++ names_below bytes ns access.held 16)
    c.deref-2.ensures.value)
