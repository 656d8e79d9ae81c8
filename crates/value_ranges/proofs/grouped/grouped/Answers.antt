use Rattle.std.proofs.Common.{◌≡◌, length, subst, arith}
use Rattle.tm_laid.specs.Layouts.{laid_tree}
use Rattle.value_ranges.specs.reading.CellEnds.{AreOfFirst}
use Rattle.value_ranges.proofs.CellEnds.{first_none, first_more}
use Rattle.value_ranges.proofs.grouped.grouped.Goals as goal

pub loop-cell-init : goal.loop-cell-init
loop-cell-init c =
    let count = c.in_ok-noted.ensures.count in
    let len = c.len.ensures in
    first_none (laid_tree c.args.laid.now) c.args.cells.now c.in_ok-noted.noted.items (omega (arith, count, len))
    c.in_ok-noted.ensures.none

pub loop-cell-preserved : goal.loop-cell-preserved
loop-cell-preserved c =
    first_more (laid_tree c.args.laid.now) c.args.cells.now c.loop-cell.cell c.loop-cell.noted.items
    c.note_cell.new.noted.items c.loop-cell.invariant c.note_cell.ensures

pub returns : goal.returns
returns c =
    let end : c.loop-cell.cell ≡ length c.args.cells.now = omega arith in
    subst (λ i. AreOfFirst (laid_tree c.args.laid.now) c.args.cells.now i c.loop-cell.noted.items) end
    c.loop-cell.invariant
