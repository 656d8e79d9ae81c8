use Rattle.std.proofs.Common.{◌≡◌, ◌++◌, take}
use Rattle.notes_json.specs.Pieces.{listed}
use Rattle.program_notes.specs.AlarmTexts.{race_object}
use Rattle.program_notes.proofs.race_alarms.push_races.Given as goal

-- what is written so far
abbrev pub invariant-loop-at : goal.invariant-loop-at
invariant-loop-at l = l.text.items ≡ l.fn.text.items
    ++ listed race_object (take l.at l.accesses)
