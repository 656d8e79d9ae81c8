use Rattle.std.proofs.Common.{◌<◌, length, arith}
use Rattle.certificate_texts.proofs.Splitting.{no_count, no_count_at_end}
use Rattle.certificate_texts.proofs.splits.count_in.Goals as goal

pub returns-then-digits-told : goal.returns-then-digits-told
returns-then-digits-told c =
    no_count_at_end c.args.told.now c.line_length-digits.result c.if-digits-told.true c.line_length-digits.ensures.before

pub returns-in-None : goal.returns-in-None
returns-in-None c =
    let told = c.args.told.now in
    let digits = c.line_length-digits.result in
    let differ = c.if-digits-told.false in
    let within = c.line_length-digits.ensures.within in
    let less : digits < length told = omega (arith, differ, within) in
    no_count told digits less (c.line_length-digits.ensures.found less) c.line_length-digits.ensures.before c.in-None.ensures
