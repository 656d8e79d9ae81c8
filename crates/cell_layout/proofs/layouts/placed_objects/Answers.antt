use Rattle.std.proofs.Common.{◌∙◌, ap, length, arith}
use Rattle.tm_typed.specs.TypedFiles.{typed_file_tree}
use Rattle.tm_laid.specs.TypeCells.{cells_of_type, abstract_cells_of_type}
use Rattle.tm_laid.specs.Layouts.{summed_types, declared_objects}
use Rattle.cell_layout.proofs.PathSteps.{paths_few}
use Rattle.cell_layout.proofs.Whole.{over_all, cells_few, abstracts_few}
use Rattle.cell_layout.proofs.layouts.placed_objects.Goals as goal

pub declared-requires : goal.declared-requires
declared-requires c =
    record { few = (let a = ap length c.requires.paths in let b = paths_few (typed_file_tree c.args.file.now) c.requires.within.paths in omega (arith, a, b)) }

pub placed-requires-clause-cells : goal.placed-requires-clause-cells
placed-requires-clause-cells c =
    let file = typed_file_tree c.args.file.now in
    let e = c.deref.ensures.value ∙ c.in_ok-declared.ensures ∙ ap (declared_objects file) c.requires.paths in
    let a = ap (summed_types (cells_of_type file)) e in
    let b = over_all file (cells_of_type file) in
    let d = cells_few file c.requires.within in
    omega (arith, a, b, d)

pub placed-requires-clause-abstract_cells : goal.placed-requires-clause-abstract_cells
placed-requires-clause-abstract_cells c =
    let file = typed_file_tree c.args.file.now in
    let e = c.deref.ensures.value ∙ c.in_ok-declared.ensures ∙ ap (declared_objects file) c.requires.paths in
    let a = ap (summed_types (abstract_cells_of_type file)) e in
    let b = over_all file (abstract_cells_of_type file) in
    let d = abstracts_few file c.requires.within in
    omega (arith, a, b, d)
