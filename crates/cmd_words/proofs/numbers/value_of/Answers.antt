use Rattle.cmd_words.proofs.NumberLemmas.{not_read}
use Rattle.cmd_words.proofs.numbers.value_of.Goals as goal

pub returns-in-Err : goal.returns-in-Err
returns-in-Err c = not_read c.args.digits.now c.parse.result c.in-Err.field-0 c.requires c.parse.ensures.value.0 c.in-Err.is
