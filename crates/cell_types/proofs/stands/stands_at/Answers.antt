use Rattle.std.proofs.Common.{arith, sym, ap, ◌∙◌, slice_get, ◌+◌}
use Rattle.tm_laid.specs.Layouts.{laid_tree, scalars_of_type}
use Rattle.cell_types.specs.reading.Descents.{is_same_cell}
use Rattle.cell_types.proofs.Standing.{too_large, small_type, differs, agrees, all_agree}
use Rattle.cell_types.proofs.stands.stands_at.Goals as goal

pub returns-then-count-gt65536 : goal.returns-then-count-gt65536
returns-then-count-gt65536 c =
    sym (too_large (laid_tree c.args.laid.now) c.args.laid.now.file.order.items c.requires.layable c.args.object c.args.offset c.args.of
    (omega (arith, c.if-count-gt65536.true, c.cells_of-count.ensures)) c.requires.few)

pub scalar_of-requires-clause-small : goal.scalar_of-requires-clause-small
scalar_of-requires-clause-small c =
    small_type (laid_tree c.args.laid.now) c.args.laid.now.file.order.items c.requires.layable c.args.object c.args.offset c.args.of
    (omega (arith, c.if-count-gt65536.false, c.cells_of-count.ensures))

pub returns-then-not-is_same_cell : goal.returns-then-not-is_same_cell
returns-then-not-is_same_cell c =
    let laid = laid_tree c.args.laid.now in
    sym (differs laid c.args.laid.now.file.order.items c.requires.layable c.args.object c.args.offset c.args.of c.loop-cell.cell
    (omega (arith, c.if-count-gt65536.false, c.cells_of-count.ensures)) (omega (arith, c.loop-cell-test.true, c.cells_of-count.ensures)) c.loop-cell.invariant
    (ap (λ x. is_same_cell x (slice_get (scalars_of_type laid.file c.args.of) c.loop-cell.cell)) (sym c.scalar_from-found.ensures)
    ∙ ap (λ y. is_same_cell c.scalar_from-found.result y) (sym c.scalar_of.ensures) ∙ sym c.is_same_cell.ensures ∙ c.if-not-is_same_cell.true))

pub loop-cell-preserved : goal.loop-cell-preserved
loop-cell-preserved c =
    let laid = laid_tree c.args.laid.now in
    agrees laid c.args.laid.now.file.order.items c.requires.layable c.args.object c.args.offset c.args.of c.loop-cell.cell (c.loop-cell.cell + 1)
    (omega (arith, c.if-count-gt65536.false, c.cells_of-count.ensures)) (omega (arith, c.loop-cell-test.true, c.cells_of-count.ensures)) (omega arith) c.loop-cell.invariant
    (ap (λ x. is_same_cell x (slice_get (scalars_of_type laid.file c.args.of) c.loop-cell.cell)) (sym c.scalar_from-found.ensures)
    ∙ ap (λ y. is_same_cell c.scalar_from-found.result y) (sym c.scalar_of.ensures) ∙ sym c.is_same_cell.ensures ∙ c.if-not-is_same_cell.false)

pub returns : goal.returns
returns c =
    sym (all_agree (laid_tree c.args.laid.now) c.args.laid.now.file.order.items c.requires.layable c.args.object c.args.offset c.args.of c.loop-cell.cell
    (omega (arith, c.if-count-gt65536.false, c.cells_of-count.ensures)) (omega (arith, c.loop-cell-test.false, c.cells_of-count.ensures)) c.loop-cell.invariant)
