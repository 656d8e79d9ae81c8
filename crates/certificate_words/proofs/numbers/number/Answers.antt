use Rattle.certificate_words.proofs.Signs.{none_in_short, signed}
use Rattle.certificate_words.proofs.numbers.number.Goals as goal

pub returns-in-empty : goal.returns-in-empty
returns-in-empty c = none_in_short c.args.bytes.now c.in-empty.len_below

pub returns-then-first-eq45 : goal.returns-then-first-eq45
returns-then-first-eq45 c = signed c.args.bytes.now c.negative.result c.if-first-eq45.true c.negative.ensures
