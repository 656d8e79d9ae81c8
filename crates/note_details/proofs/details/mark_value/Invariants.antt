use Rattle.std.proofs.Common.{◌≡◌, length}
use Rattle.note_details.proofs.details.mark_value.Given as goal

-- as many as there were
abbrev pub invariant-loop-at : goal.invariant-loop-at
invariant-loop-at l = length l.named.items ≡ length l.initial.named.items
