use Rattle.std.proofs.Common.{◌≡◌, ◌++◌, take}
use Rattle.notes_json.specs.Pieces.{listed}
use Rattle.program_notes.specs.Lists.{runner_text}
use Rattle.program_notes.proofs.lists.push_runners.Given as goal

-- what is written so far
abbrev pub invariant-loop-at : goal.invariant-loop-at
invariant-loop-at l = l.text.items ≡ l.fn.text.items
    ++ listed (runner_text l.bytes) (take l.at l.runners)
