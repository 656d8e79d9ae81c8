use Rattle.tm_typed.specs.TypedFiles.{typed_file_tree}
use Rattle.cell_layout.proofs.PartSteps.{AreElements}
use Rattle.cell_layout.proofs.cells.elements.Given as goal

abbrev pub invariant-loop-number : goal.invariant-loop-number
invariant-loop-number l = AreElements (typed_file_tree l.file) l.fn.part l.element l.length l.number l.parts.items l.next
