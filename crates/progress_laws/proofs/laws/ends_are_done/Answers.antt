use Rattle.progress_laws.proofs.Progress.{ends_are_done}
use Rattle.progress_laws.proofs.laws.ends_are_done.Goals as goal

pub returns : goal.returns
returns c = ends_are_done
