use Rattle.std.proofs.Common.{◌∙◌, ◌∷◌, [], ap, map}
use Rattle.std.proofs.lemmas.Result.{on_ok_weaker}
use Rattle.std.specs.Prelude.{option_map, string_bytes}
use Rattle.source_marks.specs.reading.Seen.{origin_seen}
use Rattle.report_logs.specs.Refusals.{refused_files, refused_invocation}
use Rattle.report_logs.specs.Uris.{uri_text}
use Rattle.report_logs.specs.reading.Seen.{refusal_seen}
use Rattle.report_logs.specs.reading.Written.{front_tokens}
use Rattle.report_logs.proofs.Appending.{one, same, then}
use Rattle.report_logs.proofs.Parts.{log_tokens}
use Rattle.report_logs.proofs.refusals.write_refused.Goals as goal

pub returns : goal.returns
returns c =
    let origin = option_map origin_seen c.args.origin in
    let front = same (ap front_tokens (ap (map string_bytes) c.deref.ensures.value ∙ c.in_ok-files.ensures))
    c.in_ok-write_front.ensures in
    on_ok_weaker c.write_back.result
    (λ e. same (log_tokens c.args.documents.now
    (refused_invocation c.args.frame.text.now c.args.frame.lines.now (refusal_seen c.args.refusal) origin)
    (uri_text c.args.name.now ∷ refused_files origin) [])
    (then front (then c.in_ok-write_refused_invocation.ensures (then (one c.in_ok-end_array.ensures)
    (then (one c.in_ok-key.ensures) (then (one c.in_ok-begin_array.ensures) (then (one c.in_ok-end_array-2.ensures) e)))))))
    c.write_back.ensures
