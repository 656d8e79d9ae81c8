use Rattle.std.proofs.Common.{rules, ◌≡◌, ◌∙◌, ap}
use Rattle.std.proofs.lemmas.Result.{on_ok_weaker}
use Rattle.source_marks.specs.reading.Seen.{origin_seen}
use Rattle.place_details.specs.Details.{function_of, region_of}
use Rattle.place_details.specs.reading.Seen.{bytes_seen}
use Rattle.report_logs.specs.Refusals.{origin_file, refused_sight}
use Rattle.report_logs.specs.Sarif.{location_data}
use Rattle.report_logs.specs.reading.Seen.{refusal_seen}
use Rattle.report_logs.specs.reading.Written.{value_tokens}
use Rattle.report_logs.proofs.Appending.{same}
use Rattle.report_logs.proofs.ToldOnce.{alone, only}
use Rattle.report_logs.proofs.refusals.write_refused_place.Goals as goal

pub returns : goal.returns
returns c =
    let origin = origin_seen c.args.origin in
    let sight = refused_sight (refusal_seen c.args.refusal) origin in
    let file : c.as_str.result.now ≡ origin_file origin = search rules in
    let region : c.index.result.now ≡ region_of c.args.text.now c.args.lines.now sight =
    alone c.in_ok-details.details.regions.items c.index.result.now _ c.in_ok-details.ensures.in_lines c.index.ensures in
    let function : c.index-2.result.now.now ≡ function_of c.args.text.now sight =
    only bytes_seen c.in_ok-details.details.functions.items c.index-2.result.now _ c.in_ok-details.ensures.in_functions
    c.index-2.ensures in
    on_ok_weaker c.write_location.result
    (λ e. same
    (ap (λ f. value_tokens (location_data f origin.line c.index.result.now c.index-2.result.now.now)) file
    ∙ ap (λ r. value_tokens (location_data (origin_file origin) origin.line r c.index-2.result.now.now)) region
    ∙ ap (λ n. value_tokens (location_data (origin_file origin) origin.line
    (region_of c.args.text.now c.args.lines.now sight) n)) function) e)
    c.write_location.ensures
