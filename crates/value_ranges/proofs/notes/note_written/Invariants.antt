use Rattle.value_ranges.specs.reading.Notes.{AreWidened, IsInWritten}
use Rattle.value_ranges.proofs.notes.note_written.Given as goal

abbrev pub invariant-loop-index : goal.invariant-loop-index
invariant-loop-index l =
    AreWidened (λ o n. IsInWritten l.cells l.written l.index o n) l.initial.noted.items l.noted.items
