use Rattle.std.proofs.Common.{◌∙◌, ◌≤◌, sym, subst, ap, length}
use Rattle.std.specs.Prelude.{codes}
use Rattle.tm_laid.specs.Layouts.{laid_tree}
use Rattle.certificate_parts.specs.declared.rows.Allowed.TheVariants.{Within}
use Rattle.certificate_parts.specs.Runs.{AreDistinct, IsRun}
use Rattle.certificate_parts.specs.Rows.{mark_row, AnyMark, mark_after}
use Rattle.certificate_parts.specs.Numbers.{number_row, FitsNumber, number_after}
use Rattle.certificate_reading.proofs.NumbersOf.{distinct}
use Rattle.certificate_reading.proofs.StateRead.{sets_under}
use Rattle.certificate_reading.proofs.CellsRead.{rows_found, rows_count, fresh_fit_length, cells_found, read_is_short, kept_of}
use Rattle.certificate_reading.proofs.cells.cells_anew.Goals as goal

pub rows_again-requires-clause-distinct : goal.rows_again-requires-clause-distinct
rows_again-requires-clause-distinct c =
    subst AreDistinct (sym c.deref.ensures.value) (distinct 0 c.args.shape.now.seen.items c.requires.seen)

pub numbers_in-requires-clause-distinct : goal.numbers_in-requires-clause-distinct
numbers_in-requires-clause-distinct c =
    subst AreDistinct (sym c.deref-3.ensures.value) (distinct 0 c.args.shape.now.shared.items c.requires.shared)

pub marks_in-requires-clause-distinct : goal.marks_in-requires-clause-distinct
marks_in-requires-clause-distinct c =
    subst AreDistinct (sym c.deref-4.ensures.value) (distinct 0 c.args.shape.now.seen.items c.requires.seen)

pub marks_in-requires-2-clause-distinct : goal.marks_in-requires-2-clause-distinct
marks_in-requires-2-clause-distinct c =
    subst AreDistinct (sym c.deref-5.ensures.value) (distinct 0 c.args.shape.now.local.items c.requires.local)

pub cells_over-requires-clause-rows : goal.cells_over-requires-clause-rows
cells_over-requires-clause-rows c =
    let laid = laid_tree c.args.laid.now in
    let shape = c.args.shape.now in
    let read = rows_found laid shape c.deref.result.now c.deref-2.result.now c.rest-text.result.now c.args.ahead.now
    c.in_ok-found.field-0 c.in-Some.found c.deref.ensures.value c.deref-2.ensures.value c.rest-text.ensures c.in-Some.is
    c.in_ok-found.ensures in
    ap length c.deref-7.ensures.value
    ∙ (rows_count laid shape c.args.ahead.now c.in-Some.found read ∙ sym (ap length c.deref-6.ensures.value))

pub cells_over-requires-clause-pending : goal.cells_over-requires-clause-pending
cells_over-requires-clause-pending c =
    sets_under (laid_tree c.args.laid.now) c.args.shape.now c.requires.mask c.turn_to.new.self c.numbers_in.new.ahead
    c.in_ok-pending.pending.items
    (subst (λ ks. IsRun (number_row (codes "p")) (FitsNumber (Within c.args.shape.now.mask)) (number_after (codes "p")) ks
    c.turn_to.new.self c.in_ok-pending.pending.items c.numbers_in.new.ahead) c.deref-3.ensures.value
    c.in_ok-pending.ensures)

pub cells_over-requires-clause-fresh : goal.cells_over-requires-clause-fresh
cells_over-requires-clause-fresh c =
    let fresh = subst (λ ks. IsRun (mark_row (codes "f")) AnyMark (mark_after (codes "f")) ks c.numbers_in.new.ahead
    c.in_ok-fresh.fresh.items c.marks_in.new.ahead) c.deref-4.ensures.value c.in_ok-fresh.ensures in
    ap length c.deref-8.ensures.value
    ∙ (fresh_fit_length (laid_tree c.args.laid.now) c.args.shape.now c.numbers_in.new.ahead c.marks_in.new.ahead
    c.in_ok-fresh.fresh.items fresh ∙ sym (ap length c.deref-6.ensures.value))

pub before_rest-kept-requires : goal.before_rest-kept-requires
before_rest-kept-requires c =
    let laid = laid_tree c.args.laid.now in
    let shape = c.args.shape.now in
    let old = c.args.ahead.now in
    let new = c.marks_in-2.new.ahead in
    let found = c.in-Some.found in
    let read = rows_found laid shape c.deref.result.now c.deref-2.result.now c.rest-text.result.now old
    c.in_ok-found.field-0 found c.deref.ensures.value c.deref-2.ensures.value c.rest-text.ensures c.in-Some.is
    c.in_ok-found.ensures in
    let pending = subst (λ ks. IsRun (number_row (codes "p")) (FitsNumber (Within shape.mask)) (number_after (codes "p")) ks
    c.turn_to.new.self c.in_ok-pending.pending.items c.numbers_in.new.ahead) c.deref-3.ensures.value
    c.in_ok-pending.ensures in
    let fresh = subst (λ ks. IsRun (mark_row (codes "f")) AnyMark (mark_after (codes "f")) ks c.numbers_in.new.ahead
    c.in_ok-fresh.fresh.items c.marks_in.new.ahead) c.deref-4.ensures.value c.in_ok-fresh.ensures in
    let stored = subst (λ ks. IsRun (mark_row (codes "s")) AnyMark (mark_after (codes "s")) ks c.marks_in.new.ahead
    c.in_ok-stored.stored.items new) c.deref-5.ensures.value c.in_ok-stored.ensures in
    let are = cells_found laid shape old c.turn_to.new.self c.numbers_in.new.ahead c.marks_in.new.ahead new found
    c.in_ok-pending.pending.items c.in_ok-fresh.fresh.items c.in_ok-stored.stored.items read c.in_ok-turn_to.ensures pending
    fresh stored c.in_ok-cells.cells c.deref-6.result.now c.deref-7.result.now c.deref-8.result.now c.deref-6.ensures.value
    c.deref-7.ensures.value c.deref-8.ensures.value c.in_ok-cells.ensures in
    let less = read_is_short laid shape old new c.in_ok-cells.cells are in
    subst (λ t. length c.rest.result.now ≤ length t) (sym c.rest-text.ensures)
    (subst (λ t. length t ≤ length old) (sym c.rest.ensures) less)

pub returns-clause-cells : goal.returns-clause-cells
returns-clause-cells c =
    let laid = laid_tree c.args.laid.now in
    let shape = c.args.shape.now in
    let old = c.args.ahead.now in
    let new = c.marks_in-2.new.ahead in
    let found = c.in-Some.found in
    let read = rows_found laid shape c.deref.result.now c.deref-2.result.now c.rest-text.result.now old
    c.in_ok-found.field-0 found c.deref.ensures.value c.deref-2.ensures.value c.rest-text.ensures c.in-Some.is
    c.in_ok-found.ensures in
    let pending = subst (λ ks. IsRun (number_row (codes "p")) (FitsNumber (Within shape.mask)) (number_after (codes "p")) ks
    c.turn_to.new.self c.in_ok-pending.pending.items c.numbers_in.new.ahead) c.deref-3.ensures.value
    c.in_ok-pending.ensures in
    let fresh = subst (λ ks. IsRun (mark_row (codes "f")) AnyMark (mark_after (codes "f")) ks c.numbers_in.new.ahead
    c.in_ok-fresh.fresh.items c.marks_in.new.ahead) c.deref-4.ensures.value c.in_ok-fresh.ensures in
    let stored = subst (λ ks. IsRun (mark_row (codes "s")) AnyMark (mark_after (codes "s")) ks c.marks_in.new.ahead
    c.in_ok-stored.stored.items new) c.deref-5.ensures.value c.in_ok-stored.ensures in
    let are = cells_found laid shape old c.turn_to.new.self c.numbers_in.new.ahead c.marks_in.new.ahead new found
    c.in_ok-pending.pending.items c.in_ok-fresh.fresh.items c.in_ok-stored.stored.items read c.in_ok-turn_to.ensures pending
    fresh stored c.in_ok-cells.cells c.deref-6.result.now c.deref-7.result.now c.deref-8.result.now c.deref-6.ensures.value
    c.deref-7.ensures.value c.deref-8.ensures.value c.in_ok-cells.ensures in
    are

pub returns-clause-kept : goal.returns-clause-kept
returns-clause-kept c =
    let laid = laid_tree c.args.laid.now in
    let shape = c.args.shape.now in
    let old = c.args.ahead.now in
    let new = c.marks_in-2.new.ahead in
    let found = c.in-Some.found in
    let read = rows_found laid shape c.deref.result.now c.deref-2.result.now c.rest-text.result.now old
    c.in_ok-found.field-0 found c.deref.ensures.value c.deref-2.ensures.value c.rest-text.ensures c.in-Some.is
    c.in_ok-found.ensures in
    let pending = subst (λ ks. IsRun (number_row (codes "p")) (FitsNumber (Within shape.mask)) (number_after (codes "p")) ks
    c.turn_to.new.self c.in_ok-pending.pending.items c.numbers_in.new.ahead) c.deref-3.ensures.value
    c.in_ok-pending.ensures in
    let fresh = subst (λ ks. IsRun (mark_row (codes "f")) AnyMark (mark_after (codes "f")) ks c.numbers_in.new.ahead
    c.in_ok-fresh.fresh.items c.marks_in.new.ahead) c.deref-4.ensures.value c.in_ok-fresh.ensures in
    let stored = subst (λ ks. IsRun (mark_row (codes "s")) AnyMark (mark_after (codes "s")) ks c.marks_in.new.ahead
    c.in_ok-stored.stored.items new) c.deref-5.ensures.value c.in_ok-stored.ensures in
    let are = cells_found laid shape old c.turn_to.new.self c.numbers_in.new.ahead c.marks_in.new.ahead new found
    c.in_ok-pending.pending.items c.in_ok-fresh.fresh.items c.in_ok-stored.stored.items read c.in_ok-turn_to.ensures pending
    fresh stored c.in_ok-cells.cells c.deref-6.result.now c.deref-7.result.now c.deref-8.result.now c.deref-6.ensures.value
    c.deref-7.ensures.value c.deref-8.ensures.value c.in_ok-cells.ensures in
    kept_of laid shape old new c.in_ok-cells.cells are _ c.rest-text.result.now c.rest.result.now c.in_ok-kept.ensures
    c.rest-text.ensures c.rest.ensures c.before_rest-kept.ensures read.1
