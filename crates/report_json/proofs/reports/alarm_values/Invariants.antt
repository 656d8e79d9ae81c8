use Rattle.std.proofs.Common.{◌≡◌, map, take}
use Rattle.serde_json.specs.View.{view}
use Rattle.report_json.specs.JsonReports.{alarm_data}
use Rattle.report_json.proofs.reports.alarm_values.Given as goal

-- the alarms so far are made
abbrev pub invariant-loop-alarm : goal.invariant-loop-alarm
invariant-loop-alarm l = map view l.values.items ≡ map alarm_data (take l.alarm-index l.alarms)
