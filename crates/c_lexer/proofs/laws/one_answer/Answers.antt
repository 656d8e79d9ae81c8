use Rattle.c_lexer.proofs.AnswerLemmas.{one_answer, lexes_more, lexes_alike}
use Rattle.c_lexer.proofs.TotalLemmas.{some_answer}
use Rattle.c_lexer.proofs.laws.one_answer.Goals as goal

pub returns-clause-one : goal.returns-clause-one
returns-clause-one c = λ most source answer other. one_answer source most

pub returns-clause-some : goal.returns-clause-some
returns-clause-some c = λ most source. some_answer source most

pub returns-clause-more : goal.returns-clause-more
returns-clause-more c = lexes_more

pub returns-clause-alike : goal.returns-clause-alike
returns-clause-alike c = lexes_alike
