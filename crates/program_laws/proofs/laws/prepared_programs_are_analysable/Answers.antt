use Rattle.program_laws.proofs.AnalysablePrograms.{analysable}
use Rattle.program_laws.proofs.laws.prepared_programs_are_analysable.Goals as goal

pub returns : goal.returns
returns c = analysable
