use Rattle.std.proofs.Common.{arith}
use Rattle.tm_typed.specs.TypedFiles.{typed_file_tree}
use Rattle.cell_layout.proofs.Whole.{cells_few, abstracts_few}
use Rattle.cell_layout.proofs.layouts.contents.Goals as goal

pub initial_cells-requires-clause-cells : goal.initial_cells-requires-clause-cells
initial_cells-requires-clause-cells c = let d = cells_few (typed_file_tree c.args.file.now) c.requires.within in omega (arith, d)

pub initial_cells-requires-clause-abstract_cells : goal.initial_cells-requires-clause-abstract_cells
initial_cells-requires-clause-abstract_cells c = let d = abstracts_few (typed_file_tree c.args.file.now) c.requires.within in omega (arith, d)
