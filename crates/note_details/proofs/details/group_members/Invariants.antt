use Rattle.std.proofs.Common.{◌≡◌, length}
use Rattle.note_details.proofs.details.group_members.Given as goal

-- one for each access so far
abbrev pub invariant-loop-access : goal.invariant-loop-access
invariant-loop-access l = length l.members.items ≡ l.access-index
