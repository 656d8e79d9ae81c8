use Rattle.std.specs.FinMap.{get}
use Rattle.interfere_set.specs.Stores.{value_or_none}
use Rattle.value_ranges.specs.reading.Notes.{AreWidened, IsInFirst}
use Rattle.value_ranges.proofs.notes.note_held.Given as goal

abbrev pub invariant-loop-index : goal.invariant-loop-index
invariant-loop-index l =
    AreWidened (λ o n. IsInFirst l.cells (λ x. value_or_none (get l.held x)) l.index o n) l.initial.noted.items
    l.noted.items
