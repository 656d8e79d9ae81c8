use Rattle.certificate_words.specs.Lines.{words_of}
use Rattle.certificate_parts.proofs.NumbersRead.{more_behind}
use Rattle.certificate_parts.proofs.rows.allowed_at.Goals as goal

pub returns-then-not-is_empty : goal.returns-then-not-is_empty
returns-then-not-is_empty c =
    more_behind c.args.allowed.now (words_of c.args.words.now) c.args.letters.now c.args.key _ c.in-Some-first_number.found.0
    (words_of c.in-Some.more.now) c.in-Some-first_number.found.1.now c.is_empty.result c.in-Some.ensures
    c.in-Some-first_number.ensures c.is_empty.ensures c.if-not-is_empty.true
