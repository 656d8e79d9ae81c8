use Rattle.thread_pass.proofs.WholePrograms.{closed_is_least}
use Rattle.thread_pass.proofs.wholes.closed_stores_are_least.Goals as goal

pub returns : goal.returns
returns c = closed_is_least
