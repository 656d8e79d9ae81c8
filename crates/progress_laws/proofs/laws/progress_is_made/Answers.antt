use Rattle.progress_laws.proofs.Progress.{progress_is_made}
use Rattle.progress_laws.proofs.laws.progress_is_made.Goals as goal

pub returns : goal.returns
returns c = progress_is_made
