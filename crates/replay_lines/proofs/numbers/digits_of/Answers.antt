use Rattle.std.proofs.Common.{◌∙◌, sym}
use Rattle.replay_lines.proofs.Digits.{no_digits, no_error}
use Rattle.replay_lines.proofs.numbers.digits_of.Goals as goal

pub returns-in-Err-parse : goal.returns-in-Err-parse
returns-in-Err-parse c =
    absurd (no_error c.args.bytes.now c.in-Ok.text.now c.parse.result c.in-Err-parse.field-0
    (sym c.has_digits_alone.ensures ∙ c.if-not-has_digits_alone.false) c.in-Ok.ensures.cases.0 c.parse.ensures.value.0 c.in-Err-parse.is)

pub returns-in-Err : goal.returns-in-Err
returns-in-Err c =
    absurd (no_digits c.args.bytes.now c.in-Err.ensures.cases.0 (sym c.has_digits_alone.ensures ∙ c.if-not-has_digits_alone.false))
