use Rattle.tm_typed.specs.TypedFiles.{typed_file_tree}
use Rattle.cell_layout.proofs.ObjectSteps.{AreCellsTo}
use Rattle.cell_layout.proofs.placing.laid_cells.Given as goal

abbrev pub invariant-loop-object : goal.invariant-loop-object
invariant-loop-object l = AreCellsTo (typed_file_tree l.file) l.objects l.object-index l.cells l.number
