use Rattle.std.proofs.Common.{true, false}
use Rattle.report_view.proofs.logs.tell_log.Goals as goal

pub returns-in-Err-Refused-clause-logged : goal.returns-in-Err-Refused-clause-logged
returns-in-Err-Refused-clause-logged g c = λ e. absurd (c.tell.ensures.others false e)

pub returns-in-Err-Refused-clause-others : goal.returns-in-Err-Refused-clause-others
returns-in-Err-Refused-clause-others g c =
    (c.tell.ensures.other_faults.0, c.tell.ensures.others true, c.tell.ensures.other_faults.1)
