use Rattle.std.proofs.Common.{rules, ◌≡◌, []}
use Rattle.std.specs.Prelude.{option_map}
use Rattle.source_marks.specs.reading.Seen.{origin_seen}
use Rattle.report_logs.specs.Refusals.{refused_data}
use Rattle.report_logs.specs.Sarif.{log_data}
use Rattle.report_logs.specs.reading.Seen.{refusal_seen}
use Rattle.report_logs.proofs.LogFound.{if_ok_by}
use Rattle.report_logs.proofs.Parts.{log_line}
use Rattle.report_logs.proofs.refusals.refused_line.Goals as goal

pub returns : goal.returns
returns c =
    let value = log_data (refused_data c.args.documents.now c.args.name.now c.args.frame.text.now
    c.args.frame.lines.now (refusal_seen c.args.refusal) (option_map origin_seen c.args.origin)) in
    let clean : c.new-out.result.before ≡ [] = search rules in
    let none : c.new-out.result.tokens ≡ [] = search rules in
    if_ok_by _ _ c.written_line.result c.written_line.ensures
    (λ text line. log_line value text.items clean none c.in_ok-write_refused.ensures line)
