use Rattle.std.proofs.Common.{ap, ◌++◌, ◌∙◌}
use Rattle.std.specs.Prelude.{codes}
use Rattle.notes_json.specs.Pieces.{number_text, word_text, truth_text}
use Rattle.notes_json.specs.Names.{is_none, priority_text}
use Rattle.notes_json.proofs.Chains.{five}
use Rattle.notes_json.proofs.names.push_task.Goals as goal

pub returns : goal.returns
returns c =
    let priority = c.args.priority in
    let said = ap (λ is. c.push_number.new.text.items ++ (codes ",\"initial\":" ++ truth_text is)) c.is_none.ensures in
    five c.args.text.now.items (number_text (codes "{\"col\":") c.args.place.col)
    (codes ",\"initial\":" ++ truth_text (is_none priority)) (number_text (codes ",\"line\":") c.args.place.line)
    (word_text (codes ",\"name\":\"") c.args.name.now) (priority_text priority) c.in_ok-push_number.ensures
    (c.in_ok-push_truth.ensures ∙ said) c.in_ok-push_number-2.ensures c.in_ok-push_word.ensures
    c.in_ok-push_priority.ensures
