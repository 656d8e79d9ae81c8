use Rattle.std.proofs.Common.{◌∙◌, ap}
use Rattle.std.specs.Prelude.{bytes_eq, string_bytes}
use Rattle.serde_json.specs.View.{view}
use Rattle.report_reading.proofs.Rebuilt.{is_same}
use Rattle.report_reading.proofs.reports.is_report.Goals as goal

pub returns-in-Ok : goal.returns-in-Ok
unfolding lib.Utf8.encode
returns-in-Ok c =
    is_same (view c.args.value.now) c.args.alarms.now (string_bytes c.in_ok-written.written) (string_bytes c.push.new.self)
    (string_bytes c.in-Ok.line) c.eq.result c.requires c.in_ok-written.ensures.text c.in_ok-written.ensures.reads_back
    c.in_ok-push.ensures.bytes c.in-Ok.ensures.text c.in-Ok.ensures.read
    (c.eq.ensures ∙ ap (λ t. bytes_eq t c.as_str-in-Ok.result.now) c.as_str.ensures.value
    ∙ ap (bytes_eq (string_bytes c.push.new.self)) c.as_str-in-Ok.ensures.value)
