use Rattle.std.proofs.Common.{ap, codes}
use Rattle.serde_json.specs.Data.{number, string, unsigned}
use Rattle.report_logs.specs.Sarif.{text_data}
use Rattle.report_logs.specs.reading.Seen.{told_seen}
use Rattle.report_logs.specs.reading.Written.{member_tokens, value_tokens}
use Rattle.report_logs.proofs.Appending.{last, one, same, then}
use Rattle.report_logs.proofs.Parts.{result_tokens}
use Rattle.report_logs.proofs.results.write_result.Goals as goal

pub returns : goal.returns
returns c =
    let level = same (ap (λ text. member_tokens (codes "level") (string text)) c.level.ensures)
    c.in_ok-write_string.ensures in
    let said = same (ap (λ text. value_tokens (text_data text)) c.rule_sentence.ensures) c.in_ok-write_text.ensures in
    let word = same (ap (λ text. member_tokens (codes "ruleId") (string text)) c.rule_word.ensures)
    c.in_ok-write_string-2.ensures in
    let position = same (ap (λ n. member_tokens (codes "ruleIndex") (number (unsigned n))) c.rule_number.ensures)
    c.in_ok-write_number.ensures in
    last c.end_object.result c.end_object.ensures
    (λ e. same (result_tokens (told_seen c.args.told))
    (then (one c.in_ok-begin_object.ensures) (then c.in_ok-write_kind.ensures (then level
    (then c.in_ok-write_locations.ensures (then (one c.in_ok-key.ensures) (then said
    (then (one c.in_ok-key-2.ensures) (then c.in_ok-write_marks.ensures (then (one c.in_ok-key-3.ensures)
    (then c.in_ok-write_related.ensures (then word (then position
    (then (one c.in_ok-key-4.ensures) (then c.in_ok-write_stacks.ensures e)))))))))))))))
