use Rattle.tm_laid.specs.Layouts.{laid_tree}
use Rattle.value_ranges.specs.reading.Notes.{AreWidened, IsFirstBelow}
use Rattle.value_ranges.proofs.cells.note_initial.Given as goal

abbrev pub invariant-loop-cell : goal.invariant-loop-cell
invariant-loop-cell l =
    AreWidened (λ o n. IsFirstBelow l.grouping (laid_tree l.laid) l.cell o n) l.initial.noted.items l.noted.items
