use Rattle.std.proofs.Common.{◌∙◌, ◌∷◌, ◌++◌, [], ap, map, true}
use Rattle.std.proofs.lemmas.Result.{on_ok_weaker}
use Rattle.std.specs.Prelude.{string_bytes}
use Rattle.place_details.specs.reading.Seen.{bytes_seen}
use Rattle.report_views.specs.Shares.{cut}
use Rattle.report_views.specs.reading.Seen.{spot_seen}
use Rattle.report_logs.specs.Sarif.{exit_code, file_of, invocation_data, result_data, told_of}
use Rattle.report_logs.specs.Uris.{uri_text}
use Rattle.report_logs.specs.reading.Seen.{way_told_seen}
use Rattle.report_logs.specs.reading.Written.{front_tokens, value_tokens}
use Rattle.report_logs.proofs.Appending.{one, same, then}
use Rattle.report_logs.proofs.Parts.{log_tokens}
use Rattle.report_logs.proofs.sarif.write_found.Goals as goal

pub returns : goal.returns
returns c =
    let spots = map spot_seen c.args.spots.now in
    let details = c.args.details.now in
    let front = same (ap front_tokens (ap (map string_bytes) c.deref.ensures.value ∙ c.in_ok-files.ensures))
    c.in_ok-write_front.ensures in
    let invocation = same (ap (λ code. value_tokens (invocation_data true code [])) c.exit_code.ensures)
    c.in_ok-write_invocation.ensures in
    on_ok_weaker c.write_back.result
    (λ e. same (log_tokens c.args.documents.now (invocation_data true (exit_code spots) [])
    (uri_text c.args.name.now ∷ map file_of (spots ++ map spot_seen c.args.sites.now))
    (map result_data (told_of spots details.regions.items (map bytes_seen details.functions.items)
    (map string_bytes details.fingerprints.items)
    (cut c.args.ways.counts.now (map way_told_seen c.args.ways.told.now)))))
    (then front (then invocation (then (one c.in_ok-end_array.ensures) (then (one c.in_ok-key.ensures)
    (then c.in_ok-write_results.ensures e))))))
    c.write_back.ensures
