use Rattle.unit_tokens.proofs.NewNames.{no_mark, one_name}
use Rattle.unit_tokens.proofs.laws.new_names.Goals as goal

pub returns-clause-fresh : goal.returns-clause-fresh
returns-clause-fresh c = λ units mark before after name is e. no_mark units mark before after name.start name.length is e

pub returns-clause-one : goal.returns-clause-one
returns-clause-one c = one_name
