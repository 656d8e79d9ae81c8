use Rattle.std.proofs.Common.{ap, sym}
use Rattle.std.proofs.lemmas.Result.{on_ok_weaker}
use Rattle.report_logs.specs.reading.Written.{column_tokens}
use Rattle.report_logs.proofs.Appending.{same, then}
use Rattle.report_logs.proofs.places.write_columns.Goals as goal

pub returns-in-From : goal.returns-in-From
returns-in-From c =
    on_ok_weaker c.write_number.result (λ e. same (ap column_tokens (sym c.in-From.is)) e) c.write_number.ensures

pub returns-in_ok-write_number-in-Within : goal.returns-in_ok-write_number-in-Within
returns-in_ok-write_number-in-Within c =
    on_ok_weaker c.write_number-in-Within-2.result
    (λ e. same (ap column_tokens (sym c.in-Within.is)) (then c.in_ok-write_number-in-Within.ensures e))
    c.write_number-in-Within-2.ensures
