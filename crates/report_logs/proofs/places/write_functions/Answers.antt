use Rattle.std.proofs.Common.{rules, ◌≡◌, ◌==◌, ap, codes, false, length}
use Rattle.serde_json.specs.Data.{string}
use Rattle.report_logs.specs.Uris.{uri_text}
use Rattle.report_logs.specs.reading.Written.{member_tokens}
use Rattle.report_logs.proofs.Appending.{last, one, same, then}
use Rattle.report_logs.proofs.Parts.{function_tokens}
use Rattle.report_logs.proofs.places.write_functions.Goals as goal

pub returns : goal.returns
returns c =
    let some : (length c.args.function.now == 0) ≡ false = search rules in
    let name : c.as_str.result.now ≡ uri_text c.args.function.now = search rules in
    let named = same (ap (λ text. member_tokens (codes "name") (string text)) name) c.in_ok-write_string-2.ensures in
    last c.end_array-2.result c.end_array-2.ensures
    (λ e. same (function_tokens c.args.function.now some)
    (then (one c.in_ok-begin_array.ensures) (then (one c.in_ok-begin_object.ensures) (then c.in_ok-write_string.ensures
    (then named (then (one c.in_ok-end_object.ensures) e))))))
