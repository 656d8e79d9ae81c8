use Rattle.open_choices.specs.reading.Marks.{IsMarked}
use Rattle.open_choices.proofs.Searching.{NoneSo}
use Rattle.open_choices.proofs.marks.marks_one.Given as goal

abbrev pub invariant-loop-cell : goal.invariant-loop-cell
invariant-loop-cell l = NoneSo (IsMarked l.marks) l.cells l.cell-index
