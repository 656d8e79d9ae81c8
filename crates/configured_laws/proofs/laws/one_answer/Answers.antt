use Rattle.configured_laws.proofs.OneProgram.{not_both, one_refused, programs_alike}
use Rattle.configured_laws.proofs.laws.one_answer.Goals as goal

pub returns-clause-apart : goal.returns-clause-apart
returns-clause-apart c = not_both

pub returns-clause-limit : goal.returns-clause-limit
returns-clause-limit c = one_refused

pub returns-clause-program : goal.returns-clause-program
returns-clause-program c = programs_alike
