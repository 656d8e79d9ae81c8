use Rattle.tm_typed.specs.TypedFiles.{typed_file_tree}
use Rattle.cell_layout.specs.reading.Parts.{AreCores}
use Rattle.cell_layout.proofs.cores.go_on.Given as goal

abbrev pub invariant-loop-number : goal.invariant-loop-number
invariant-loop-number l = AreCores (typed_file_tree l.fn.file) l.cores
