use Rattle.std.proofs.Common.{◌≡◌, length}
use Rattle.note_details.proofs.details.mark_values.Given as goal

-- as many as there were
abbrev pub invariant-loop-alarm : goal.invariant-loop-alarm
invariant-loop-alarm l = length l.named.items ≡ length l.initial.named.items
