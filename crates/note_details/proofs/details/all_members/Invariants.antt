use Rattle.std.proofs.Common.{◌≡◌, length, map, take}
use Rattle.note_details.proofs.details.all_members.Given as goal

-- those of the groups so far
abbrev pub invariant-loop-group : goal.invariant-loop-group
invariant-loop-group l = map (λ row. length row.items) l.members.items ≡ map (λ row. length row.items) (take l.group-index l.accesses)
