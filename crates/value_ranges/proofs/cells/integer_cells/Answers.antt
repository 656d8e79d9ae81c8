use Rattle.std.proofs.Common.{◌+◌, sym, subst, arith, Vec}
use Rattle.std.specs.declared.alloc.Global.{Global}
use Rattle.tm_laid.specs.Layouts.{laid_tree}
use Rattle.value_ranges.specs.declared.cells.IntegerCell.{IntegerCell}
use Rattle.value_ranges.specs.reading.Notes.{AreFirstCells}
use Rattle.value_ranges.proofs.Listing.{cells_none, cells_same, cells_more, cells_all}
use Rattle.value_ranges.proofs.cells.integer_cells.Goals as goal
use Rattle.value_ranges.proofs.cells.integer_cells.Goals.{in-Some+in_ok-push, in_default}

pub loop-cell-init : goal.loop-cell-init
loop-cell-init c =
    subst (λ xs. AreFirstCells c.args.grouping (laid_tree c.args.laid.now) 0 xs) (sym c.new-cells.ensures.items)
    (cells_none c.args.grouping (laid_tree c.args.laid.now))

pub loop-cell-preserved : goal.loop-cell-preserved
loop-cell-preserved c =
    let laid = laid_tree c.args.laid.now in
    let i = c.loop-cell.cell in
    let Cells = λ (v : Vec IntegerCell Global). AreFirstCells c.args.grouping laid (i + 1) v.items in
    elim c.match-key_of.branch [
      | in-Some+in_ok-push w ↦ subst Cells (sym w.cells-is)
          (subst (λ xs. AreFirstCells c.args.grouping laid (i + 1) xs) (sym w.in_ok-push.ensures.items)
          (cells_more c.args.grouping laid i c.loop-cell.cells.items c.key_of.result c.key_of.ensures c.loop-cell.invariant
          w.in-Some.object w.in-Some.is))
      | in_default w ↦ subst Cells (sym w.cells-is)
          (cells_same c.args.grouping laid i c.loop-cell.cells.items c.key_of.result c.key_of.ensures c.loop-cell.invariant
          w.in_default.is)
    ]

pub returns : goal.returns
returns c =
    cells_all c.args.grouping (laid_tree c.args.laid.now) c.loop-cell.cell c.loop-cell.cells.items (omega arith) c.loop-cell.invariant
