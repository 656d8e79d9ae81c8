use Rattle.std.proofs.Common.{◌≡◌, length}
use Rattle.tm_typed.specs.TypedFiles.{typed_file_tree}
use Rattle.cell_layout.specs.reading.Parts.{AreCores}
use Rattle.cell_layout.proofs.cores.only_parts.Given as goal

abbrev pub invariant-loop-number : goal.invariant-loop-number
invariant-loop-number l = (length l.cores.items ≡ l.number) × AreCores (typed_file_tree l.file) l.cores.items
