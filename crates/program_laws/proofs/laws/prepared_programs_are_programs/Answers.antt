use Rattle.program_laws.proofs.LaidPrograms.{program_kept}
use Rattle.program_laws.proofs.laws.prepared_programs_are_programs.Goals as goal

pub returns : goal.returns
returns c = program_kept
