use Rattle.std.proofs.Common.{◌+◌, ◌-◌, take, drop, get_or, length, arith}
use Rattle.certificate_words.specs.Lines.{word_of}
use Rattle.certificate_words.proofs.NextLines.{unended, above_all, around, no_word_in_front, first_of}
use Rattle.certificate_words.proofs.firsts.first_word.Goals as goal

pub returns-then-length-bytes : goal.returns-then-length-bytes
returns-then-length-bytes c =
    unended c.args.bytes.now (above_all c.args.bytes.now c.word_length-length.result c.if-length-bytes.true
    c.word_length-length.ensures.above)

pub returns-in-None : goal.returns-in-None
returns-in-None c =
    let n = c.word_length-length.result in
    no_word_in_front c.args.bytes.now (take n c.args.bytes.now) (get_or c.args.bytes.now n 0)
    (drop (n + 1) c.args.bytes.now) (around c.args.bytes.now n c.if-length-bytes.false) c.word_length-length.ensures.above
    (c.word_length-length.ensures.ends c.if-length-bytes.false) c.in-None.ensures

pub returns-in-Some : goal.returns-in-Some
returns-in-Some c =
    let n = c.word_length-length.result in
    first_of c.args.bytes.now n (length c.args.bytes.now - (n + 1)) (word_of c.in-Some.word) c.ended.result c.if-length-bytes.false
    c.word_length-length.ensures.above (c.word_length-length.ensures.ends c.if-length-bytes.false) c.in-Some.ensures
    (let l = c.if-length-bytes.false in omega (arith, l)) c.ended.ensures
