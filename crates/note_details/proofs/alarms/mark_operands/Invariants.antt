use Rattle.std.proofs.Common.{◌≡◌, length}
use Rattle.note_details.proofs.alarms.mark_operands.Given as goal

-- as many as there were
abbrev pub invariant-loop-edge : goal.invariant-loop-edge
invariant-loop-edge l = length l.named.items ≡ length l.initial.named.items
