use Rattle.std.proofs.Common.{◌≡◌, ◌++◌, take}
use Rattle.notes_json.specs.Pieces.{listed}
use Rattle.program_notes.specs.Paths.{path_text}
use Rattle.program_notes.proofs.path_objects.push_paths.Given as goal

-- what is written so far
abbrev pub invariant-loop-at : goal.invariant-loop-at
invariant-loop-at l = l.text.items ≡ l.fn.text.items
    ++ listed path_text (take l.at l.paths)
