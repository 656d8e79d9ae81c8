use Rattle.report_logs.proofs.Appending.{one, then, last}
use Rattle.report_logs.proofs.refusals.write_notification.Goals as goal

pub returns : goal.returns
returns c =
    last c.end_object-2.result c.end_object-2.ensures
    (λ e. then (one c.in_ok-begin_object.ensures) (then (one c.in_ok-key.ensures) (then (one c.in_ok-begin_object-2.ensures) (then c.in_ok-write_string.ensures (then (one c.in_ok-end_object.ensures) (then c.in_ok-write_string-2.ensures (then (one c.in_ok-key-2.ensures) (then c.in_ok-write_refused_places.ensures (then (one c.in_ok-key-3.ensures) (then c.in_ok-write_text.ensures (e)))))))))))
