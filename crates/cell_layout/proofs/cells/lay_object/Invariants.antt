use Rattle.std.proofs.Common.{reverse}
use Rattle.tm_typed.specs.TypedFiles.{typed_file_tree}
use Rattle.cell_layout.specs.reading.Parts.{parts_nodes}
use Rattle.cell_layout.proofs.PartSteps.{IsGoing}
use Rattle.cell_layout.proofs.cells.lay_object.Given as goal

abbrev pub invariant-loop-part : goal.invariant-loop-part
invariant-loop-part l = IsGoing (typed_file_tree l.file) l.object l.number l.first l.initial.cells l.cells l.waiting.items

abbrev pub decreases-loop-part : goal.decreases-loop-part
decreases-loop-part l = parts_nodes (typed_file_tree l.file) (reverse l.waiting.items)
