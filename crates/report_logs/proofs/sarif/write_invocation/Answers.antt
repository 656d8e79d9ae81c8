use Rattle.report_logs.proofs.Appending.{one, then, last}
use Rattle.report_logs.proofs.sarif.write_invocation.Goals as goal

pub returns : goal.returns
returns c =
    last c.end_object.result c.end_object.ensures
    (λ e. then c.in_ok-write_invocation_front.ensures (then (one c.in_ok-end_array.ensures) (e)))
