use Rattle.c_expr_parser.proofs.CompleteForms.{exactly}
use Rattle.c_expr_parser.specs.reading.Descent.{reads}
use Rattle.c_expr_parser.proofs.SoundSteps.{reads_sound}
use Rattle.c_expr_parser.proofs.CompleteSteps.{reads_complete, reads_longest}
use Rattle.c_expr_parser.proofs.laws.followed_by_no_operator.Goals as goal

pub returns : goal.returns
returns c = λ types at limit ts t rest f stops.
    reads_longest types limit at ts (t, rest) (exactly types (reads types limit) limit (reads_sound types limit) (reads_complete types limit) at ts t rest f stops)
