use Rattle.std.proofs.Common.{◌≡◌, length}
use Rattle.source_names.proofs.members.descend.Given as goal

-- as many as there were
abbrev pub invariant-loop-at : goal.invariant-loop-at
invariant-loop-at l = length l.cells.items ≡ length l.initial.cells.items
