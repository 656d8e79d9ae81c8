use Rattle.std.proofs.Common.{arith, ◌+◌, ap}
use Rattle.tm_laid.specs.Layouts.{laid_tree}
use Rattle.cell_types.proofs.Standing.{cell_inside, cell_outside}
use Rattle.cell_types.proofs.stands.scalar_from.Goals as goal

pub returns-then-place-from : goal.returns-then-place-from
returns-then-place-from c =
    let laid = laid_tree c.args.laid.now in
    let cells = ap (λ o. o.cells) c.object_at-entry.ensures in
    let first = ap (λ o. o.first_cell) c.object_at-entry.ensures in
    cell_inside laid c.args.object c.args.offset c.args.cell (c.object_at-entry.result.first_cell + (c.from.result + c.from-2.result)) c.scalar_at.result
    (omega (arith, c.if-place-from.true, cells)) (omega (arith, first, c.from.ensures, c.from-2.ensures)) c.scalar_at.ensures

pub returns-else-place-from : goal.returns-else-place-from
returns-else-place-from c =
    let laid = laid_tree c.args.laid.now in
    let cells = ap (λ o. o.cells) c.object_at-entry.ensures in
    cell_outside laid c.args.object c.args.offset c.args.cell (omega (arith, c.if-place-from.false, cells))
