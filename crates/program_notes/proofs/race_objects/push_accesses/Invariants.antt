use Rattle.std.proofs.Common.{◌≡◌, ◌++◌, take}
use Rattle.std.specs.List.{enumerate_from}
use Rattle.notes_json.specs.Pieces.{listed}
use Rattle.program_notes.specs.GroupTexts.{access_object}
use Rattle.program_notes.proofs.race_objects.push_accesses.Given as goal

-- what is written so far
abbrev pub invariant-loop-at : goal.invariant-loop-at
invariant-loop-at l = l.text.items ≡ l.fn.text.items
    ++ listed (access_object l.members) (take l.at (enumerate_from 0 l.accesses))
