use Rattle.typing_laws.proofs.OneAnswer.{one_answer}
use Rattle.typing_laws.proofs.answers.a_file_has_one_answer.Goals as goal

pub returns : goal.returns
returns c = one_answer
