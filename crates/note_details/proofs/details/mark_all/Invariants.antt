use Rattle.std.proofs.Common.{◌≡◌, length}
use Rattle.note_details.proofs.details.mark_all.Given as goal

-- as many as there were
abbrev pub invariant-loop-object : goal.invariant-loop-object
invariant-loop-object l = length l.named.items ≡ length l.initial.named.items
