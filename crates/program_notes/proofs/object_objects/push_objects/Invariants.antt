use Rattle.std.proofs.Common.{◌≡◌, ◌++◌}
use Rattle.notes_json.specs.Pieces.{listed}
use Rattle.notes_json.specs.reading.Marks.{has_some}
use Rattle.program_notes.specs.ObjectTexts.{object_at, listed_below}
use Rattle.program_notes.proofs.object_objects.push_objects.Given as goal

-- the objects so far, and whether any is listed
abbrev pub invariant-loop-at : goal.invariant-loop-at
invariant-loop-at l = record {
  written : l.text.items ≡ l.fn.text.items
      ++ listed (object_at l.bytes l.bounds l.objects l.details) (listed_below l.numbers l.at);
  others : l.others ≡ has_some (listed_below l.numbers l.at);
}
