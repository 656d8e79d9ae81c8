use Rattle.report_logs.proofs.Appending.{one, then, last}
use Rattle.report_logs.proofs.sarif.write_invocation_front.Goals as goal

pub returns : goal.returns
returns c =
    last c.begin_array.result c.begin_array.ensures
    (λ e. then (one c.in_ok-begin_object.ensures) (then (one c.in_ok-key.ensures) (then (one c.in_ok-boolean.ensures) (then c.in_ok-write_number.ensures (then (one c.in_ok-key-2.ensures) (e))))))
