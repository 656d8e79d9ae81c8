use Rattle.tm_typed.specs.TypedFiles.{typed_file_tree}
use Rattle.std.proofs.Common.{take}
use Rattle.cell_layout.proofs.Totals.{AreFound}
use Rattle.cell_layout.proofs.counts.totals.Given as goal

abbrev pub invariant-loop-function : goal.invariant-loop-function
invariant-loop-function l = AreFound (typed_file_tree l.file) l.limit (take l.function-index l.file.order.items) l.totals.items
