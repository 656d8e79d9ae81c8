use Rattle.std.proofs.Common.{arith}
use Rattle.source_marks.proofs.Texts.{too_great}
use Rattle.source_marks.proofs.marks.value_of.Goals as goal

pub returns-then-value-gt-GREATEST_LINE : goal.returns-then-value-gt-GREATEST_LINE
returns-then-value-gt-GREATEST_LINE c =
    too_great c.args.digits.now c.loop-digit.digit-index c.loop-digit.value _ c.loop-digit-test.true (omega arith)
    c.loop-digit.invariant.1 c.if-value-gt-GREATEST_LINE.true
