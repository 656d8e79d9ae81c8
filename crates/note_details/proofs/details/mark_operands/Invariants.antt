use Rattle.std.proofs.Common.{◌≡◌, length}
use Rattle.note_details.proofs.details.mark_operands.Given as goal

-- as many as there were
abbrev pub invariant-loop-value : goal.invariant-loop-value
invariant-loop-value l = length l.named.items ≡ length l.initial.named.items
