use Rattle.std.proofs.Common.{false}
use Rattle.std.specs.Prelude.{option_map}
use Rattle.source_marks.specs.reading.Seen.{origin_seen}
use Rattle.report_logs.specs.Refusals.{notification_data, refused_code, refused_places}
use Rattle.report_logs.specs.reading.Seen.{refusal_seen}
use Rattle.report_logs.proofs.Appending.{last, one, same, then}
use Rattle.report_logs.proofs.Parts.{invocation_told}
use Rattle.report_logs.proofs.refusals.write_refused_invocation.Goals as goal

pub returns : goal.returns
returns c =
    let refusal = refusal_seen c.args.refusal in
    let places = refused_places c.args.frame.text.now c.args.frame.lines.now refusal
    (option_map origin_seen c.args.origin) in
    last c.end_object.result c.end_object.ensures
    (λ e. same (invocation_told false refused_code (notification_data refusal places))
    (then c.in_ok-write_invocation_front.ensures (then c.in_ok-write_notification.ensures
    (then (one c.in_ok-end_array.ensures) e))))
