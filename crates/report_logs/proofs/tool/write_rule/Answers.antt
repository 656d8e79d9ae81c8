use Rattle.std.proofs.Common.{rules, ◌≡◌, ap, codes}
use Rattle.serde_json.specs.Data.{string}
use Rattle.report_logs.specs.Sarif.{text_data}
use Rattle.report_logs.specs.Uris.{help_uri}
use Rattle.report_logs.specs.reading.Written.{member_tokens, value_tokens}
use Rattle.report_logs.proofs.Appending.{last, one, same, then}
use Rattle.report_logs.proofs.tool.write_rule.Goals as goal

pub returns : goal.returns
returns c =
    let level = same (ap (λ text. member_tokens (codes "level") (string text)) c.level.ensures)
    c.in_ok-write_string.ensures in
    let help = same (ap (λ text. value_tokens (text_data text)) c.rule_help.ensures) c.in_ok-write_text.ensures in
    let uri : c.as_str.result.now ≡ help_uri c.args.documents.now c.args.rule = search rules in
    let explained = same (ap (λ text. member_tokens (codes "helpUri") (string text)) uri)
    c.in_ok-write_string-2.ensures in
    let word = same (ap (λ text. member_tokens (codes "id") (string text)) c.rule_word.ensures)
    c.in_ok-write_string-3.ensures in
    let said = same (ap (λ text. value_tokens (text_data text)) c.rule_sentence.ensures) c.in_ok-write_text-2.ensures in
    last c.end_object-2.result c.end_object-2.ensures
    (λ e. then (one c.in_ok-begin_object.ensures) (then (one c.in_ok-key.ensures) (then (one c.in_ok-begin_object-2.ensures)
    (then level (then (one c.in_ok-end_object.ensures) (then (one c.in_ok-key-2.ensures) (then help (then explained
    (then word (then (one c.in_ok-key-3.ensures) (then said e)))))))))))
