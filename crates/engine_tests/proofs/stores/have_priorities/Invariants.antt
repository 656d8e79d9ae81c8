use Rattle.std.proofs.Common.{◌<◌, All, take}
use Rattle.engine_tests.proofs.Writers.{Written}
use Rattle.engine_tests.proofs.stores.have_priorities.Given as goal

-- the writers so far are tasks
abbrev pub invariant-loop-writer : goal.invariant-loop-writer
invariant-loop-writer l = All (λ (e : Written). e.0 < l.tasks) (take l.writer-index l.writer-items)
