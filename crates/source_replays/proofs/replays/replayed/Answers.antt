use Rattle.std.proofs.Common.{sym, ap, ◌∙◌, Some}
use Rattle.std.specs.Prelude.{string_bytes}
use Rattle.tm_laid.specs.Layouts.{laid_tree}
use Rattle.source_replays.proofs.Answered.{run_answers, none_answers, one_ok, both_ok, mapped_some, mapped_none}
use Rattle.source_replays.proofs.replays.replayed.Goals as goal

pub returns-in_ok-run-in-Some : goal.returns-in_ok-run-in-Some
returns-in_ok-run-in-Some c =
    one_ok c.told.result c.told.ensures
    (λ reply h. run_answers c.args.bytes.now (laid_tree c.args.laid.now) c.requires.replayable _
    (mapped_some _ _ _ _ c.in_ok-choices.ensures c.in-Some.is ∙ ap Some (sym c.deref.ensures.value)) _ _ c.in_ok-run-in-Some.ensures reply.outcome
    (string_bytes reply.text) h)

pub returns-in-None : goal.returns-in-None
returns-in-None c =
    both_ok c.not_asked.result c.not_asked.ensures.outcome c.not_asked.ensures.text
    (λ reply e f. none_answers c.args.bytes.now (laid_tree c.args.laid.now) c.requires.replayable (mapped_none _ _ _ c.in_ok-choices.ensures c.in-None.is)
    reply.outcome (string_bytes reply.text) e f)
