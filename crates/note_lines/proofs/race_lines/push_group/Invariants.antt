use Rattle.std.proofs.Common.{◌≡◌, ◌++◌, take}
use Rattle.std.specs.List.{flat_map}
use Rattle.note_lines.specs.RaceTexts.{group_head, access_line}
use Rattle.note_lines.proofs.race_lines.push_group.Given as goal

-- the lines of the accesses so far
abbrev pub invariant-loop-access : goal.invariant-loop-access
invariant-loop-access l = l.text.items ≡ l.fn.text.items ++ (group_head l.bytes l.names.objects.items l.group
    ++ flat_map (access_line l.bytes l.names.tasks.items l.names.mutexes.items) (take l.access-index l.access-items))
