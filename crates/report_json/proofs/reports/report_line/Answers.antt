use Rattle.report_json.proofs.JsonTexts.{is_line, is_read}
use Rattle.report_json.proofs.reports.report_line.Goals as goal

pub returns-clause-text : goal.returns-clause-text
unfolding lib.Utf8.encode
returns-clause-text c =
    is_line c.args.alarms.now _ _ _ c.in_ok-value.ensures c.in_ok-text.ensures.text c.in_ok-push.ensures.bytes

pub returns-clause-read : goal.returns-clause-read
returns-clause-read c =
    is_read c.args.alarms.now _ _ c.in_ok-value.ensures c.in_ok-text.ensures.text c.in_ok-text.ensures.reads_back
