use Rattle.std.proofs.Common.{◌≡◌, ◌∙◌, ap, subst, false, List, ℕ, []}
use Rattle.std.specs.Prelude.{string_bytes}
use Rattle.big_source.specs.GeneratedSources.{source_text, summary_text}
use Rattle.analyser.specs.reading.Replies.{IsFound}
use Rattle.analyser.proofs.AnswerLemmas.{if_ok_both, report_summarised, refusal_summarised}
use Rattle.analyser.proofs.replies.summarised.Goals as goal

pub returns-in-Reported : goal.returns-in-Reported
returns-in-Reported g c =
    let n = c.args.asked.workers in
    let solved = c.in-Reported.solved in
    let same : c.as_bytes.result.now ≡ source_text c.args.asked.count = c.as_bytes.ensures.value ∙ c.in_ok-source.ensures in
    let again : c.as_bytes-in-Reported.result.now ≡ source_text c.args.asked.count =
    c.as_bytes-in-Reported.ensures.value ∙ c.in_ok-source.ensures in
    let found = subst (λ (bytes : List ℕ). IsFound [] n false bytes c.in_ok-solved.field-0) same c.in_ok-solved.ensures in
    let reported = subst (IsFound [] n false (source_text c.args.asked.count)) c.in-Reported.is found in
    if_ok_both c.summary_reply.result c.summary_reply.ensures.tells c.summary_reply.ensures.text
    (λ reply tells e. report_summarised (source_text c.args.asked.count) solved.report.alarms.items reported.0
    reply.status (string_bytes reply.text) tells (e ∙ ap (λ (bytes : List ℕ). summary_text bytes solved.report.alarms.items) again))

pub returns : goal.returns
returns g c =
    let n = c.args.asked.workers in
    let same : c.as_bytes.result.now ≡ source_text c.args.asked.count = c.as_bytes.ensures.value ∙ c.in_ok-source.ensures in
    let found = subst (λ (bytes : List ℕ). IsFound [] n false bytes c.in_ok-solved.field-0) same c.in_ok-solved.ensures in
    let refused = subst (IsFound [] n false (source_text c.args.asked.count)) c.in-Refused.is found in
    if_ok_both c.refused.result c.refused.ensures.status c.refused.ensures.text
    (λ reply e f. refusal_summarised (source_text c.args.asked.count) c.in-Refused.refusal refused reply.status
    (string_bytes reply.text) e f)
