use Rattle.std.proofs.Common.{rules, ◌≡◌, ap}
use Rattle.report_views.specs.reading.Seen.{spot_seen}
use Rattle.report_logs.specs.Sarif.{file_of, physical_data}
use Rattle.report_logs.specs.reading.Written.{value_tokens}
use Rattle.report_logs.proofs.Appending.{last, one, same, then}
use Rattle.report_logs.proofs.stacks.write_site.Goals as goal

pub returns : goal.returns
returns c =
    let file : c.as_str.result.now ≡ file_of (spot_seen c.args.way.spot) = search rules in
    let place = same
    (ap (λ file. value_tokens (physical_data file c.args.way.spot.origin.line c.args.way.region)) file)
    c.in_ok-write_physical.ensures in
    last c.end_object.result c.end_object.ensures
    (λ e. then (one c.in_ok-begin_object.ensures) (then (one c.in_ok-key.ensures) (then c.in_ok-write_text.ensures
    (then (one c.in_ok-key-2.ensures) (then place e)))))
