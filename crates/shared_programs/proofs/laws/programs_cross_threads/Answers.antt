use Rattle.shared_programs.proofs.Programs.{program_send, program_sync}
use Rattle.shared_programs.proofs.laws.programs_cross_threads.Goals as goal

pub returns-clause-sent : goal.returns-clause-sent
returns-clause-sent c = program_send

pub returns-clause-shared : goal.returns-clause-shared
returns-clause-shared c = program_sync
