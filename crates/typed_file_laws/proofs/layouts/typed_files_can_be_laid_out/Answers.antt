use Rattle.typed_file_laws.proofs.Layable.{are_layable}
use Rattle.typed_file_laws.proofs.layouts.typed_files_can_be_laid_out.Goals as goal

pub returns : goal.returns
returns c = are_layable
