use Rattle.shared_programs.proofs.TypedTrees.{typed_file_send, typed_file_sync}
use Rattle.shared_programs.proofs.laws.files_cross_threads.Goals as goal

pub returns-clause-sent : goal.returns-clause-sent
returns-clause-sent c = typed_file_send

pub returns-clause-shared : goal.returns-clause-shared
returns-clause-shared c = typed_file_sync
