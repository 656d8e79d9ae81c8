use Rattle.std.proofs.Common.{Some, None, arith}
use Rattle.std.proofs.lemmas.Str.Pattern.{split_after}
use Rattle.report_reading.specs.reading.Told.{words_of}
use Rattle.report_reading.proofs.Told.{words_avoid}
use Rattle.report_reading.proofs.ways.first_way.Goals as goal

pub returns-in_err-line-clause-line : goal.returns-in_err-line-clause-line
returns-in_err-line-clause-line c =
    λ w rest can e. absurd (split_after 10 c.args.text.now (words_of w) rest None c.in_err-line.ensures.cases
    (omega arith) e (words_avoid w can))

pub returns-in_err-way-clause-line : goal.returns-in_err-way-clause-line
returns-in_err-way-clause-line c =
    λ w rest can e.
    let one = split_after 10 c.args.text.now (words_of w) rest (Some (c.in_ok-line.line, c.in_ok-line.rest))
    c.in_ok-line.ensures.cases (omega arith) e (words_avoid w can) in
    absurd (c.in_err-way.ensures w can one.0)

pub returns-clause-line : goal.returns-clause-line
returns-clause-line c =
    λ w rest can e.
    let one = split_after 10 c.args.text.now (words_of w) rest (Some (c.in_ok-line.line, c.in_ok-line.rest))
    c.in_ok-line.ensures.cases (omega arith) e (words_avoid w can) in
    (c.in_ok-way.ensures w can one.0, one.1)
