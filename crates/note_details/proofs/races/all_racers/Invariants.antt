use Rattle.std.proofs.Common.{◌≡◌, ◌++◌, drop}
use Rattle.note_details.specs.Races.{all_racers}
use Rattle.note_details.specs.Races.{accesses_of}
use Rattle.note_details.proofs.races.all_racers.Given as goal

-- those of the groups so far, and those that are left
abbrev pub invariant-loop-group : goal.invariant-loop-group
invariant-loop-group l = l.racers.items ++ all_racers l.group (accesses_of (drop l.group l.groups)) ≡ all_racers 0 (accesses_of l.groups)
