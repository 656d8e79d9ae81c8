use Rattle.std.proofs.Common.{◌≤◌, length}
use Rattle.note_details.proofs.objects.members_of.Given as goal

-- at most 32
abbrev pub invariant-loop-index : goal.invariant-loop-index
invariant-loop-index l = length l.members.items ≤ 32
