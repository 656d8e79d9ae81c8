use Rattle.std.proofs.Common.{◌≡◌, map, take}
use Rattle.report_views.specs.Spots.{finding_of}
use Rattle.report_views.proofs.spots.findings_of.Given as goal

abbrev pub invariant-loop-alarm : goal.invariant-loop-alarm
invariant-loop-alarm l = l.findings.items ≡ map finding_of (take l.alarm-index l.alarms)
