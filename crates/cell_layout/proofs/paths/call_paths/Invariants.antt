use Rattle.tm_typed.specs.TypedFiles.{typed_file_tree}
use Rattle.cell_layout.specs.reading.Waits.{AreNumbered}
use Rattle.cell_layout.proofs.paths.call_paths.Given as goal

abbrev pub invariant-loop-number : goal.invariant-loop-number
invariant-loop-number l = AreNumbered (typed_file_tree l.file) l.number l.numbered
