use Rattle.tm_typed.specs.TypedFiles.{typed_file_tree}
use Rattle.cell_layout.proofs.ObjectSteps.{ArePlaced}
use Rattle.cell_layout.proofs.placing.placed.Given as goal

abbrev pub invariant-loop-object : goal.invariant-loop-object
invariant-loop-object l = ArePlaced (typed_file_tree l.file) l.declared l.object-index l.objects.items l.cell l.abstract_cell
