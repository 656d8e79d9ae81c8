use denote.Param.Send.{sendable}
use Rattle.post_recheck.proofs.Shared.{given_sync}
use Rattle.post_recheck.proofs.checking.checks_by_threads.Goals as goal

pub checks_of-requires-sync-N : goal.checks_of-requires-sync-N
checks_of-requires-sync-N g c κs = search (given_sync, sendable) depth 20
