use Rattle.std.proofs.Common.{◌≡◌}
use Rattle.program_notes.specs.Guards.{guard_below}
use Rattle.program_notes.proofs.guards.guard_of.Given as goal

-- the best of the mutexes so far
abbrev pub invariant-loop-mutex : goal.invariant-loop-mutex
invariant-loop-mutex l = l.guard ≡ guard_below l.accesses l.mutex
