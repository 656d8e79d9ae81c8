use Rattle.source_programs.proofs.Programs.{programs_are_one}
use Rattle.source_programs.proofs.laws.programs_are_one.Goals as goal

pub returns : goal.returns
returns c = programs_are_one
