use Rattle.std.proofs.Common.{◌≡◌, take}
use Rattle.std.specs.List.{flat_map}
use Rattle.note_lines.specs.RaceTexts.{group_text}
use Rattle.note_lines.proofs.race_lines.groups_text.Given as goal

-- the texts of the groups so far
abbrev pub invariant-loop-group : goal.invariant-loop-group
invariant-loop-group l = l.text.items ≡ flat_map (group_text l.bytes l.names.objects.items l.names.tasks.items
    l.names.mutexes.items) (take l.group-index l.groups)
