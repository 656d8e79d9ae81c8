use Rattle.std.proofs.Common.{◌∙◌, ap, sym, Some, None}
use Rattle.serde_json.specs.View.{view}
use Rattle.report_reading.specs.reading.Seen.{alarms_seen}
use Rattle.report_reading.proofs.Rebuilt.{no_report, other_by}
use Rattle.report_reading.proofs.reports.report_of.Goals as goal

pub returns-in-None : goal.returns-in-None
returns-in-None c =
    no_report (view c.args.value.now) None (ap alarms_seen (sym c.in-None.is) ∙ c.in_ok-found.ensures) tt

pub returns-else-same : goal.returns-else-same
returns-else-same c =
    no_report (view c.args.value.now) (Some c.in-Some.alarms.items) (ap alarms_seen (sym c.in-Some.is) ∙ c.in_ok-found.ensures)
    (other_by (view c.args.value.now) c.in-Some.alarms.items c.deref.result.now c.in_ok-same-in-Some.same c.in_ok-same-in-Some.ensures
    c.deref.ensures.value c.if-same.false)
