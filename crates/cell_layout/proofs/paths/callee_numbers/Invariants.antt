use Rattle.tm_typed.specs.CallGraph.{calls_in}
use Rattle.tm_typed.specs.TypedFiles.{typed_file_tree}
use Rattle.cell_layout.proofs.PathSteps.{AreNumbers}
use Rattle.cell_layout.proofs.paths.callee_numbers.Given as goal

abbrev pub invariant-loop-callee : goal.invariant-loop-callee
invariant-loop-callee l = AreNumbers (typed_file_tree l.file) (calls_in (typed_file_tree l.file).calls l.function) l.first l.callee-index l.numbers.items l.number
