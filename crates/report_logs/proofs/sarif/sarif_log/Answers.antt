use Rattle.std.proofs.Common.{rules, ◌≡◌, [], map}
use Rattle.std.specs.Prelude.{string_bytes}
use Rattle.place_details.specs.reading.Seen.{bytes_seen}
use Rattle.report_views.specs.Shares.{cut}
use Rattle.report_views.specs.reading.Seen.{spot_seen}
use Rattle.report_logs.specs.Sarif.{found_data, log_data, told_of}
use Rattle.report_logs.specs.reading.Seen.{way_told_seen}
use Rattle.report_logs.proofs.LogFound.{if_ok_by}
use Rattle.report_logs.proofs.Parts.{log_line}
use Rattle.report_logs.proofs.sarif.sarif_log.Goals as goal

pub returns : goal.returns
returns c =
    let spots = map spot_seen c.args.spots.now in
    let details = c.args.details.now in
    let value = log_data (found_data c.args.documents.now c.args.name.now spots (map spot_seen c.args.sites.now)
    (told_of spots details.regions.items (map bytes_seen details.functions.items)
    (map string_bytes details.fingerprints.items)
    (cut c.args.ways.counts.now (map way_told_seen c.args.ways.told.now)))) in
    let clean : c.new-out.result.before ≡ [] = search rules in
    let none : c.new-out.result.tokens ≡ [] = search rules in
    if_ok_by _ _ c.written_line.result c.written_line.ensures
    (λ text line. log_line value text.items clean none c.in_ok-write_found.ensures line)
