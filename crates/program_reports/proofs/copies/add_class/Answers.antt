use Rattle.program_reports.proofs.Steps.{class_noted}
use Rattle.program_reports.proofs.Tables.{relabelled}
use Rattle.program_reports.proofs.copies.add_class.Goals as goal

pub returns-in_ok-push_alarm : goal.returns-in_ok-push_alarm
returns-in_ok-push_alarm c = λ a.
    relabelled (c.in_ok-push_alarm.ensures a) (class_noted c.args.place c.args.class c.args.noted a c.if-noted.true)
