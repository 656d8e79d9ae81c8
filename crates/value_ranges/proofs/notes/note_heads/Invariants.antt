use Rattle.value_ranges.specs.reading.Notes.{AreWidened, IsInHeads, is_noted}
use Rattle.value_ranges.proofs.notes.note_heads.Given as goal

abbrev pub invariant-loop-node : goal.invariant-loop-node
invariant-loop-node l =
    AreWidened (λ o n. IsInHeads l.cells (is_noted l.all l.facts.heads l.facts.written l.nodes) l.table l.node o n)
    l.initial.noted.items l.noted.items
