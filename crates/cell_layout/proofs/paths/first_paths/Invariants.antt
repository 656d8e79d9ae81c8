use Rattle.tm_typed.specs.TypedFiles.{typed_file_tree}
use Rattle.cell_layout.proofs.PathSteps.{AreNumbers}
use Rattle.cell_layout.proofs.paths.first_paths.Given as goal

abbrev pub invariant-loop-body : goal.invariant-loop-body
invariant-loop-body l = AreNumbers (typed_file_tree l.fn.file) l.bodies 0 l.body-index l.numbers.items l.number
