use Rattle.std.proofs.Common.{◌≡◌, map, take}
use Rattle.note_details.specs.Races.{race_of}
use Rattle.note_details.specs.Races.{races_seen, told_of}
use Rattle.note_details.proofs.alarms.race_accesses.Given as goal

-- the accesses so far
abbrev pub invariant-loop-racer : goal.invariant-loop-racer
invariant-loop-racer l = races_seen l.accesses ≡ map (race_of (told_of l.from.accesses.now)) (take l.racer-index l.racers)
