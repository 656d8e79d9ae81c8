use Rattle.std.proofs.Common.{◌∙◌, sym, ap}
use Rattle.certificate_words.specs.reading.Digits.{is_plain}
use Rattle.certificate_words.proofs.Decimals.{not_plain, parsed, not_parsed, is_utf8}
use Rattle.certificate_words.proofs.numbers.natural.Goals as goal

pub returns-then-not-is_plain : goal.returns-then-not-is_plain
returns-then-not-is_plain c = not_plain c.args.bytes.now (sym c.is_plain.ensures ∙ c.if-not-is_plain.true)

pub returns-in-Ok-parse : goal.returns-in-Ok-parse
returns-in-Ok-parse c =
    sym c.in-Ok.ensures.cases.0
    ∙ parsed c.in-Ok.text.now c.parse.result c.in-Ok-parse.value
    (ap is_plain c.in-Ok.ensures.cases.0 ∙ (sym c.is_plain.ensures ∙ c.if-not-is_plain.false)) c.parse.ensures.value.0
    c.in-Ok-parse.is

pub returns-in-Err-parse : goal.returns-in-Err-parse
returns-in-Err-parse c = λ n lt e.
    not_parsed c.in-Ok.text.now c.parse.result c.in-Err-parse.field-0 c.parse.ensures.value.0 c.in-Err-parse.is n lt
    (c.in-Ok.ensures.cases.0 ∙ e)

pub returns-in-Err : goal.returns-in-Err
returns-in-Err c = λ n lt e.
    c.in-Err.ensures.cases.0 (is_utf8 c.args.bytes.now (sym c.is_plain.ensures ∙ c.if-not-is_plain.false))
