use Rattle.std.proofs.Common.{arith}
use Rattle.certificate_words.specs.Lines.{words_of}
use Rattle.certificate_parts.proofs.NumbersRead.{pair_step, no_pair_step}
use Rattle.certificate_parts.proofs.rows.number_in.Goals as goal

pub returns-in-None : goal.returns-in-None
returns-in-None c =
    no_pair_step c.args.letters.now c.requires c.args.allowed.now c.args.key c.args.ahead.now (words_of c.words.result.now)
    (omega arith) c.words.ensures c.in-None.ensures

pub returns-in_ok-step-in-Some : goal.returns-in_ok-step-in-Some
returns-in_ok-step-in-Some c =
    pair_step c.args.letters.now c.requires c.args.allowed.now c.args.key c.in-Some.number c.args.ahead.now
    c.step.new.self (words_of c.words.result.now) (omega arith) c.words.ensures c.in-Some.ensures c.in_ok-step-in-Some.ensures
