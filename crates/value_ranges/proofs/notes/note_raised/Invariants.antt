use Rattle.value_ranges.specs.reading.Notes.{AreWidened, IsInCopies}
use Rattle.value_ranges.proofs.notes.note_raised.Given as goal

abbrev pub invariant-loop-index : goal.invariant-loop-index
invariant-loop-index l =
    AreWidened (λ o n. IsInCopies l.cells l.edges l.copies l.table l.index o n) l.initial.noted.items l.noted.items
