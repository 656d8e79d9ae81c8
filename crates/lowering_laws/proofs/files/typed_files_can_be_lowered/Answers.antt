use Rattle.lowering_laws.proofs.Lowered.{lowerable}
use Rattle.lowering_laws.proofs.files.typed_files_can_be_lowered.Goals as goal

pub returns : goal.returns
returns c = lowerable
