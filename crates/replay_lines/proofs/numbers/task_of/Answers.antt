use Rattle.replay_lines.proofs.Digits.{no_number}
use Rattle.replay_lines.proofs.numbers.task_of.Goals as goal

pub returns-in-Err : goal.returns-in-Err
returns-in-Err c = no_number c.args.bytes.now c.in-Err.ensures.cases.0
