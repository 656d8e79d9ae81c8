use Rattle.report_logs.proofs.Appending.{one, then, last}
use Rattle.report_logs.proofs.sarif.write_back.Goals as goal

pub returns : goal.returns
returns c =
    last c.end_object-3.result c.end_object-3.ensures
    (λ e. then (one c.in_ok-key.ensures) (then (one c.in_ok-begin_object.ensures) (then (one c.in_ok-key-2.ensures) (then c.in_ok-write_driver.ensures (then (one c.in_ok-end_object.ensures) (then (one c.in_ok-end_object-2.ensures) (then (one c.in_ok-end_array.ensures) (then c.in_ok-write_string.ensures (e)))))))))
