use Rattle.shared_programs.proofs.Facts.{program_facts_send, program_facts_sync}
use Rattle.shared_programs.proofs.laws.facts_cross_threads.Goals as goal

pub returns-clause-sent : goal.returns-clause-sent
returns-clause-sent c = program_facts_send

pub returns-clause-shared : goal.returns-clause-shared
returns-clause-shared c = program_facts_sync
