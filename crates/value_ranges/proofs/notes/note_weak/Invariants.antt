use Rattle.value_ranges.specs.reading.Notes.{AreWidened, IsInWeak}
use Rattle.value_ranges.proofs.notes.note_weak.Given as goal

abbrev pub invariant-loop-index : goal.invariant-loop-index
invariant-loop-index l =
    AreWidened (λ o n. IsInWeak l.cells l.store.weak l.index o n) l.initial.noted.items l.noted.items
