use Rattle.std.proofs.Common.{ap, ◌∙◌, ◌++◌, [], ◌∷◌}
use Rattle.std.specs.Prelude.{codes}
use Rattle.tm_terms.specs.Texts.{place_head}
use Rattle.note_lines.specs.Names.{name_at, names_below}
use Rattle.note_lines.proofs.Pieces.{line}
use Rattle.note_lines.proofs.ring_lines.push_request.Goals as goal

pub returns : goal.returns
returns c =
    let bytes = c.args.bytes.now in
    let tasks = c.args.names.now.tasks.items in
    let mutexes = c.args.names.now.mutexes.items in
    let request = c.args.request in
    line c.args.text.now.items (place_head request.place) (name_at bytes tasks request.task) (codes " holds")
    (names_below bytes mutexes request.held 16) (codes " asks ") (name_at bytes mutexes request.mutex) (10 ∷ [])
    (c.in_ok-push_bytes.ensures ∙ ap (λ x. c.args.text.now.items ++ x) (c.as_bytes.ensures.value
    ∙ c.in_ok-head.ensures))
    (c.in_ok-push_bytes-2.ensures ∙ ap (λ x. c.push_bytes.new.text.items ++ x) (c.name_at.ensures
    ∙ ap (λ ns. name_at bytes ns request.task) c.deref.ensures.value))
    c.in_ok-push_bytes-3.ensures (c.in_ok-push_names.ensures ∙ ap (λ ns. c.push_bytes-3.new.text.items
    ++ names_below bytes ns request.held 16) c.deref-2.ensures.value) c.in_ok-push_bytes-4.ensures
    (c.in_ok-push_bytes-5.ensures ∙ ap (λ x. c.push_bytes-4.new.text.items ++ x) (c.name_at-2.ensures
    ∙ ap (λ ns. name_at bytes ns request.mutex) c.deref-3.ensures.value))
    c.in_ok-push_bytes-6.ensures
