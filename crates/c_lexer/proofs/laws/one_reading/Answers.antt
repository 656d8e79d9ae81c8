use Rattle.c_lexer.proofs.AnswerLemmas.{one_list, one_place, not_both}
use Rattle.c_lexer.proofs.laws.one_reading.Goals as goal

pub returns-clause-list : goal.returns-clause-list
returns-clause-list c = λ source tokens others. one_list source

pub returns-clause-place : goal.returns-clause-place
returns-clause-place c = λ source place other. one_place source

pub returns-clause-apart : goal.returns-clause-apart
returns-clause-apart c = λ source place tokens. not_both source
