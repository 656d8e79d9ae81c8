use Rattle.source_findings.proofs.Solved.{if_ok_by}
use Rattle.source_findings.proofs.Certified.{certificate_told, if_ok_both, refusal_told}
use Rattle.source_findings.proofs.certificates.certificate_of.Goals as goal

pub returns-in_ok-found-in-Ok : goal.returns-in_ok-found-in-Ok
returns-in_ok-found-in-Ok c =
    let a = c.in-Ok.ensures.accepted _ c.in_ok-analysis-in-Ok.ensures in
    if_ok_by c.certificate_reply.result c.certificate_reply.ensures
    (λ reply t. certificate_told c.args.bytes.now _ a _ c.in_ok-found-in-Ok.ensures reply.status reply.text.items t)

pub returns-in-Err-Refused : goal.returns-in-Err-Refused
returns-in-Err-Refused c =
    let r = rw c.in-Err-Refused.field-0-is at c.in-Err-Refused.ensures.refused in
    if_ok_both c.refused.result c.refused.ensures.status c.refused.ensures.text
    (λ reply e f. refusal_told c.args.bytes.now c.in-Err-Refused.refusal r reply.status reply.text.items e f)
