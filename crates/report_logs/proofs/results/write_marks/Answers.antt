use Rattle.report_logs.proofs.Appending.{last, one, then}
use Rattle.report_logs.proofs.results.write_marks.Goals as goal

pub returns : goal.returns
returns c =
    last c.end_object.result c.end_object.ensures
    (λ e. then (one c.in_ok-begin_object.ensures) (then c.in_ok-write_string.ensures e))
