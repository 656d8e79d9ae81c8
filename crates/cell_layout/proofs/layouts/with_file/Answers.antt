use Rattle.tm_typed.specs.TypedFiles.{typed_file_tree}
use Rattle.cell_layout.proofs.Whole.{laid_is}
use Rattle.cell_layout.proofs.layouts.with_file.Goals as goal

pub returns-clause-layout : goal.returns-clause-layout
returns-clause-layout c = laid_is (typed_file_tree c.args.file) c.args.tables c.requires.layout
