use Rattle.c_parser.proofs.FileAnswers.{answered}
use Rattle.c_parser.proofs.laws.some_answer.Goals as goal

pub returns : goal.returns
returns c = answered
