use Rattle.std.proofs.Common.{◌≡◌, ◌++◌, take}
use Rattle.notes_json.specs.Pieces.{listed, place_text}
use Rattle.program_notes.proofs.lists.push_places.Given as goal

-- what is written so far
abbrev pub invariant-loop-at : goal.invariant-loop-at
invariant-loop-at l = l.text.items ≡ l.fn.text.items
    ++ listed place_text (take l.at l.places)
