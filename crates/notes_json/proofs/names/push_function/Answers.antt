use Rattle.std.proofs.Common.{ap, sym, ◌++◌, ◌∙◌}
use Rattle.std.specs.Prelude.{codes}
use Rattle.notes_json.specs.Pieces.{word_text}
use Rattle.notes_json.specs.Names.{function_text}
use Rattle.notes_json.proofs.Chains.{two}
use Rattle.notes_json.proofs.names.push_function.Goals as goal

pub returns-in_ok-push_bytes-in-Some : goal.returns-in_ok-push_bytes-in-Some
returns-in_ok-push_bytes-in-Some c =
    two c.args.text.now.items (word_text (codes "\"function\":\"") c.args.function.now) (codes ",")
    c.in_ok-push_word-in-Some.ensures c.in_ok-push_bytes-in-Some.ensures
    ∙ ap (λ t. c.args.text.now.items ++ function_text c.args.function.now t) (sym c.in-Some.is)
