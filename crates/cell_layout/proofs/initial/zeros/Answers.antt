use Rattle.tm_typed.specs.TypedFiles.{typed_file_tree}
use Rattle.cell_layout.specs.declared.cells.Cells.{Cells}
use Rattle.cell_layout.proofs.StaticSteps.{zeros_of}
use Rattle.cell_layout.proofs.initial.zeros.Goals as goal

pub returns : goal.returns
returns c =
    let first : Cells = record { cells = c.new.result; abstract_cells = c.new-2.result } in
    zeros_of (typed_file_tree c.args.file.now) c.args.number c.loop-cell.cell-index first c.lay_object.new.cells c.deref-cell-items.result.now c.loop-cell.values.items
    c.in_ok-lay_object.ensures c.new.ensures.items c.deref-cell-items.ensures.value c.loop-cell-test.false c.loop-cell.invariant
