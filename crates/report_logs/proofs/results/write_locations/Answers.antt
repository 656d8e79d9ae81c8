use Rattle.std.proofs.Common.{rules, ◌≡◌, ap}
use Rattle.report_views.specs.reading.Seen.{spot_seen}
use Rattle.report_logs.specs.Sarif.{file_of, location_data}
use Rattle.report_logs.specs.reading.Written.{value_tokens}
use Rattle.report_logs.proofs.Appending.{last, one, same, then}
use Rattle.report_logs.proofs.results.write_locations.Goals as goal

pub returns : goal.returns
returns c =
    let told = c.args.told in
    let file : c.as_str.result.now ≡ file_of (spot_seen told.spot) = search rules in
    let place = same
    (ap (λ file. value_tokens (location_data file told.spot.origin.line told.region told.function.now)) file)
    c.in_ok-write_location.ensures in
    last c.end_array.result c.end_array.ensures
    (λ e. then (one c.in_ok-key.ensures) (then (one c.in_ok-begin_array.ensures) (then place e)))
