use Rattle.std.proofs.Common.{◌≡◌, ◌++◌, take}
use Rattle.notes_json.specs.Pieces.{listed}
use Rattle.program_notes.specs.ObjectTexts.{member_object}
use Rattle.program_notes.proofs.object_objects.push_members.Given as goal

-- what is written so far
abbrev pub invariant-loop-at : goal.invariant-loop-at
invariant-loop-at l = l.text.items ≡ l.fn.text.items
    ++ listed member_object (take l.at l.members)
