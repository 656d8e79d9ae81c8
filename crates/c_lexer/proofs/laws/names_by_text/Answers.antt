use Rattle.c_lexer.proofs.NameLaw.{names_by_text, name_is_whole}
use Rattle.c_lexer.proofs.laws.names_by_text.Goals as goal

pub returns-clause-equal : goal.returns-clause-equal
returns-clause-equal c = λ source. names_by_text source

pub returns-clause-whole : goal.returns-clause-whole
returns-clause-whole c = λ source. name_is_whole source
