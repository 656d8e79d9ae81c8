use Rattle.c_lexer.proofs.AnswerLemmas.{only_one}
use Rattle.c_lexer.proofs.lexing.lex.Goals as goal

pub returns-clause-only : goal.returns-clause-only
returns-clause-only c = only_one c.args.bytes.now c.args.most _ c.answered.ensures
