use Rattle.report_logs.proofs.Appending.{one, then, last}
use Rattle.report_logs.proofs.tool.write_driver.Goals as goal

pub returns : goal.returns
returns c =
    last c.end_object.result c.end_object.ensures
    (λ e. then (one c.in_ok-begin_object.ensures) (then c.in_ok-write_string.ensures (then (one c.in_ok-key.ensures) (then c.in_ok-write_rules.ensures (then c.in_ok-write_string-2.ensures (then c.in_ok-write_string-3.ensures (e)))))))
