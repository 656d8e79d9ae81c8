use Rattle.std.proofs.Common.{◌≡◌, length}
use Rattle.note_details.proofs.details.all_objects.Given as goal

-- one for each object so far
abbrev pub invariant-loop-object : goal.invariant-loop-object
invariant-loop-object l = length l.objects.items ≡ l.object-index
