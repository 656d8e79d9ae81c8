use Rattle.c_lexer.proofs.NameLemmas.{HasStarts-more}
use Rattle.c_lexer.proofs.names.first_start.Goals as goal

pub returns-in-Ok-clause-noted : goal.returns-in-Ok-clause-noted
returns-in-Ok-clause-noted c = λ table is.
    HasStarts-more c.args.starts.now c.insert.new.self table c.args.text.now c.args.here is c.in_default.ensures.value c.in-Ok.ensures.updates
