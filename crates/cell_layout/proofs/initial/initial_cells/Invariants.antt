use Rattle.tm_typed.specs.TypedFiles.{typed_file_tree}
use Rattle.cell_layout.proofs.StaticSteps.{AreHeld}
use Rattle.cell_layout.proofs.initial.initial_cells.Given as goal

abbrev pub invariant-loop-object : goal.invariant-loop-object
invariant-loop-object l = AreHeld (typed_file_tree l.file) l.numbers l.file.statics.items l.object-index l.held.items
