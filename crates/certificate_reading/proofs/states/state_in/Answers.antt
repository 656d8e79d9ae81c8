use Rattle.std.proofs.Common.{refl, sym, ap, subst, get_or, false, true, ◌≡◌}
use Rattle.std.specs.Prelude.{codes}
use Rattle.tm_laid.specs.Layouts.{laid_tree}
use Rattle.post_recheck.specs.state_fits.Kinds.{InExtents}
use Rattle.certificate_parts.specs.declared.rows.Allowed.TheVariants.{Marked}
use Rattle.certificate_reading.specs.States.{IsStateIn}
use Rattle.certificate_reading.specs.reading.Cells.{AreReadCells}
use Rattle.certificate_reading.proofs.NumbersOf.{distinct}
use Rattle.certificate_reading.proofs.StateRuns.{missing_rows, found_rows, marked_run}
use Rattle.certificate_reading.proofs.StateRead.{temps_missing, cells_missing, state_read, copies_under}
use Rattle.certificate_reading.proofs.states.state_in.Goals as goal

pub values_in-requires-clause-distinct : goal.values_in-requires-clause-distinct
values_in-requires-clause-distinct c = distinct 0 c.args.live.now c.requires.live

pub numbers_in-requires-clause-distinct : goal.numbers_in-requires-clause-distinct
numbers_in-requires-clause-distinct c = distinct 0 c.args.live.now c.requires.live

pub returns-in_default-clause-state : goal.returns-in_default-clause-state
returns-in_default-clause-state c =
    let laid = laid_tree c.args.laid.now in
    let Fits = InExtents laid c.args.extents.now in
    let live = c.args.live.now in
    temps_missing laid c.args.task c.args.extents.now c.args.shape.now live c.requires.shape c.requires.live
    c.args.ahead.now c.values_in.new.ahead
    (missing_rows (λ v. v.items) (codes "t") Fits Fits refl live live refl c.args.ahead.now c.values_in.new.ahead
    c.in_ok-values.field-0 c.in_default.is c.in_ok-values.ensures)

pub returns-in_default-2-clause-state : goal.returns-in_default-2-clause-state
returns-in_default-2-clause-state c =
    let laid = laid_tree c.args.laid.now in
    let Fits = InExtents laid c.args.extents.now in
    let live = c.args.live.now in
    let mid = c.values_in.new.ahead in
    cells_missing laid c.args.task c.args.extents.now c.args.shape.now live c.requires.shape c.requires.live
    c.args.ahead.now c.cells_in.new.ahead mid c.in-Some.values.items
    (found_rows (λ v. v.items) (codes "t") Fits Fits refl live live refl c.args.ahead.now mid c.in_ok-values.field-0
    c.in-Some.values c.in-Some.is c.in_ok-values.ensures)
    (subst (λ r. AreReadCells laid c.args.shape.now mid r c.cells_in.new.ahead) c.in_default-2.is
    c.in_ok-cells.ensures.cells)

pub temps_with-requires-clause-copies : goal.temps_with-requires-clause-copies
temps_with-requires-clause-copies c =
    let shape = c.args.shape.now in
    copies_under (laid_tree c.args.laid.now) shape c.args.task c.requires.shape c.requires.cells c.args.live.now
    c.cells_in.new.ahead c.numbers_in.new.ahead c.in_ok-copies.copies.items
    (marked_run (Marked c.deref.result) shape.marks.items
    (λ n. ap (λ ms. get_or ms n false ≡ true) c.deref.ensures.value) (codes "k") c.args.live.now c.cells_in.new.ahead
    c.in_ok-copies.copies.items c.numbers_in.new.ahead c.in_ok-copies.ensures)

pub returns-clause-state : goal.returns-clause-state
returns-clause-state c =
    let laid = laid_tree c.args.laid.now in
    let shape = c.args.shape.now in
    let Fits = InExtents laid c.args.extents.now in
    let live = c.args.live.now in
    let mid = c.values_in.new.ahead in
    let new = c.numbers_in.new.ahead in
    let copies = marked_run (Marked c.deref.result) shape.marks.items
    (λ n. ap (λ ms. get_or ms n false ≡ true) c.deref.ensures.value) (codes "k") live c.cells_in.new.ahead
    c.in_ok-copies.copies.items new c.in_ok-copies.ensures in
    subst (λ s. IsStateIn laid c.args.task c.args.extents.now live c.args.ahead.now s new) (sym c.new.ensures)
    (state_read laid c.args.task c.args.extents.now shape live c.requires.shape c.requires.live c.args.ahead.now new mid
    c.in-Some.values.items
    (found_rows (λ v. v.items) (codes "t") Fits Fits refl live live refl c.args.ahead.now mid c.in_ok-values.field-0
    c.in-Some.values c.in-Some.is c.in_ok-values.ensures) c.cells_in.new.ahead c.in-Some-2.cells
    (subst (λ r. AreReadCells laid shape mid r c.cells_in.new.ahead) c.in-Some-2.is c.in_ok-cells.ensures.cells)
    c.in_ok-copies.copies.items copies (record { temps = c.in_ok-temps.temps; cells = c.in-Some-2.cells })
    c.in_ok-temps.ensures refl)
