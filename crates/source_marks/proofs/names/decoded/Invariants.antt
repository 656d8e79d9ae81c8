use Rattle.std.proofs.Common.{◌≡◌, ◌++◌, length}
use Rattle.source_marks.specs.Names.{decoded}
use Rattle.source_marks.proofs.names.decoded.Given as goal

abbrev pub invariant-loop-rest : goal.invariant-loop-rest
invariant-loop-rest l = decoded l.spelled ≡ l.name.items ++ decoded l.rest

abbrev pub decreases-loop-rest : goal.decreases-loop-rest
decreases-loop-rest l = length l.rest
