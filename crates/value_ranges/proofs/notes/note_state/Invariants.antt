use Rattle.program_reports.specs.post_recheck.transfer_rows.StateForms.{own_of}
use Rattle.value_ranges.specs.reading.Notes.{AreWidened, IsInFirst}
use Rattle.value_ranges.proofs.notes.note_state.Given as goal

abbrev pub invariant-loop-index : goal.invariant-loop-index
invariant-loop-index l =
    AreWidened (λ o n. IsInFirst l.cells (own_of l.state) l.index o n) l.initial.noted.items l.noted.items
