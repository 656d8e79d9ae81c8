use Rattle.report_logs.proofs.Parts.{region_tokens}
use Rattle.report_logs.proofs.Appending.{last, one, same, then}
use Rattle.report_logs.proofs.places.write_region.Goals as goal

pub returns : goal.returns
returns c =
    last c.end_object.result c.end_object.ensures
    (λ e. same (region_tokens c.args.line c.args.region)
    (then (one c.in_ok-begin_object.ensures) (then c.in_ok-write_columns.ensures (then c.in_ok-write_number.ensures (e)))))
