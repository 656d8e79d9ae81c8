use Rattle.std.proofs.Common.{◌≡◌, length}
use Rattle.note_details.proofs.details.mark_groups.Given as goal

-- as many as there were
abbrev pub invariant-loop-group : goal.invariant-loop-group
invariant-loop-group l = length l.named.items ≡ length l.initial.named.items
