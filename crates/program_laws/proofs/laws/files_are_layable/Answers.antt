use Rattle.program_laws.proofs.LayableFiles.{files_layable}
use Rattle.program_laws.proofs.laws.files_are_layable.Goals as goal

pub returns : goal.returns
returns c = files_layable
