use Rattle.alarm_contexts.proofs.One.{report_alarms, no_races}
use Rattle.alarm_contexts.proofs.laws.contexts_are_alarms.Goals as goal

pub returns-clause-alarms : goal.returns-clause-alarms
returns-clause-alarms c = report_alarms

pub returns-clause-races : goal.returns-clause-races
returns-clause-races c = no_races
