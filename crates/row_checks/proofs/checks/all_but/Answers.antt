use Rattle.std.proofs.Common.{arith}
use Rattle.row_checks.proofs.Checked.{no_mutex}
use Rattle.row_checks.proofs.checks.all_but.Goals as goal

pub returns-else-mutex-lt16 : goal.returns-else-mutex-lt16
returns-else-mutex-lt16 c = no_mutex c.args.mutex (omega arith)
