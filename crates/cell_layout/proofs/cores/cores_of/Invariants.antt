use Rattle.tm_typed.specs.TypedFiles.{typed_file_tree}
use Rattle.cell_layout.specs.reading.Parts.{AreCores}
use Rattle.cell_layout.proofs.cores.cores_of.Given as goal

abbrev pub invariant-loop-round : goal.invariant-loop-round
invariant-loop-round l = AreCores (typed_file_tree l.file) l.cores.items
