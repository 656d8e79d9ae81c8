use Rattle.std.proofs.Common.{◌+◌, arith}
use Rattle.c_lexer.proofs.DigitLemmas.{value_of_front, value_more}
use Rattle.c_lexer.proofs.constants.value_in.Goals as goal

pub returns-in-None : goal.returns-in-None
returns-in-None c =
    let front = value_of_front c.args.base c.args.digits.now (c.loop-byte.byte-index + 1) c.requires in
    let more = value_more c.args.base c.args.digits.now c.loop-byte.byte-index 0 (omega arith) in
    grind (arith, c.in-None.ensures, c.loop-byte.invariant.0)
