use Rattle.std.proofs.Common.{subst}
use Rattle.std.specs.Prelude.{string_bytes}
use Rattle.analyser.specs.reading.Replies.{IsFound}
use Rattle.analyser.proofs.AnswerLemmas.{if_ok_both, report_answered, refusal_answered}
use Rattle.analyser.proofs.replies.analysed.Goals as goal

pub returns-in-Reported : goal.returns-in-Reported
returns-in-Reported g c =
    let w = c.args.asked.now in
    let solved = c.in-Reported.solved in
    let given = subst (λ given. IsFound given w.workers w.history c.args.bytes.now c.in_ok-solved.field-0) c.as_slice.ensures
    c.in_ok-solved.ensures in
    let found = subst (IsFound w.thresholds w.workers w.history c.args.bytes.now) c.in-Reported.is given in
    if_ok_both c.report_reply.result c.report_reply.ensures.tells c.report_reply.ensures.text
    (λ reply tells e. report_answered w c.args.bytes.now solved.report.alarms.items found.0 (string_bytes solved.history)
    found.1 reply.status (string_bytes reply.text) tells e)

pub returns-in-Refused : goal.returns-in-Refused
returns-in-Refused g c =
    let w = c.args.asked.now in
    let given = subst (λ given. IsFound given w.workers w.history c.args.bytes.now c.in_ok-solved.field-0) c.as_slice.ensures
    c.in_ok-solved.ensures in
    let found = subst (IsFound w.thresholds w.workers w.history c.args.bytes.now) c.in-Refused.is given in
    if_ok_both c.refused.result c.refused.ensures.status c.refused.ensures.text
    (λ reply e f. refusal_answered w c.args.bytes.now c.in-Refused.refusal found reply.status (string_bytes reply.text)
    e f)
