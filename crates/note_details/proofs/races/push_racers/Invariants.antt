use Rattle.std.proofs.Common.{◌≡◌, ◌++◌, drop}
use Rattle.note_details.specs.Races.{racers_in}
use Rattle.note_details.proofs.races.push_racers.Given as goal

-- the racing accesses so far, and those that are left
abbrev pub invariant-loop-number : goal.invariant-loop-number
invariant-loop-number l = l.racers.items ++ racers_in l.group l.number (drop l.number l.accesses) ≡ l.initial.racers.items ++ racers_in l.group 0 l.accesses
