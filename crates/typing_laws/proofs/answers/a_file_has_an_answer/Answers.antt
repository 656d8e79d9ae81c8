use Rattle.typing_laws.proofs.SomeAnswer.{some_answer}
use Rattle.typing_laws.proofs.answers.a_file_has_an_answer.Goals as goal

pub returns : goal.returns
returns c = some_answer
