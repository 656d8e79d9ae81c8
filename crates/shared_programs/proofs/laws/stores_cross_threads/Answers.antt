use Rattle.shared_programs.proofs.States.{store_send, store_sync}
use Rattle.shared_programs.proofs.laws.stores_cross_threads.Goals as goal

pub returns-clause-sent : goal.returns-clause-sent
returns-clause-sent c = store_send

pub returns-clause-shared : goal.returns-clause-shared
returns-clause-shared c = store_sync
