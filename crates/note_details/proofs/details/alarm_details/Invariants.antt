use Rattle.std.proofs.Common.{◌≡◌, length, map, take, All}
use Rattle.note_details.specs.Details.{races_of, HasPaths}
use Rattle.note_details.specs.Races.{accesses_of, told_of, races_seen}
use Rattle.note_details.proofs.details.alarm_details.Given as goal

-- the details of the alarms so far
abbrev pub invariant-loop-alarm : goal.invariant-loop-alarm
invariant-loop-alarm l =
    All HasPaths l.details.items
    × (map (λ d. races_seen d.accesses) l.details.items ≡ map (races_of (accesses_of l.from.groups.now) (told_of l.from.accesses.now)) (take l.alarm-index l.report))
    × (length l.named.items ≡ length l.initial.named.items)
