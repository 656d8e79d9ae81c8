use Rattle.std.proofs.Common.{◌≡◌, ◌≤◌}
use Rattle.program_notes.specs.Guards.{held_below}
use Rattle.program_notes.proofs.guards.held_count.Given as goal

-- at how many of the accesses so far it is held
abbrev pub invariant-loop-at : goal.invariant-loop-at
invariant-loop-at l = (l.count ≡ held_below l.accesses l.mutex l.at) × (l.count ≤ l.at)
