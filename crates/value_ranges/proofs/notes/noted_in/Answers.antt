use Rattle.std.proofs.Common.{length, List, sym, subst, arith}
use Rattle.std.proofs.lemmas.List.{length-map}
use Rattle.tm_laid.specs.Layouts.{laid_tree}
use Rattle.program_reports.specs.post_recheck.program_systems.ProgramFacts.{program_with}
use Rattle.program_reports.specs.post_recheck.Pairs.{lists_of}
use Rattle.value_ranges.specs.declared.cells.IntegerCell.{IntegerCell}
use Rattle.value_ranges.specs.reading.Notes.{AreOfObjects}
use Rattle.value_ranges.proofs.Listing.{of_objects}
use Rattle.value_ranges.proofs.Noting.{all_noted}
use Rattle.value_ranges.proofs.notes.noted_in.Goals as goal

pub note_initial-requires : goal.note_initial-requires
note_initial-requires c =
    let count = c.in_ok-noted.ensures.count in
    let len = c.key_count.ensures in
    omega (arith, count, len)

pub note_tables-requires-clause-objects : goal.note_tables-requires-clause-objects
note_tables-requires-clause-objects c =
    let count = c.in_ok-noted.ensures.count in
    let len = c.key_count.ensures in
    let same = c.note_initial.ensures.count in
    subst (λ (cells : List IntegerCell). AreOfObjects cells (length c.note_initial.new.noted.items))
    (sym c.deref.ensures.value)
    (of_objects c.args.grouping (laid_tree c.args.program.now.laid) c.in_ok-cells.cells.items c.in_ok-cells.ensures _
    (omega (arith, count, len, same)))

pub note_weak-requires : goal.note_weak-requires
note_weak-requires c =
    let count = c.in_ok-noted.ensures.count in
    let len = c.key_count.ensures in
    let same = c.note_initial.ensures.count in
    let again = c.note_tables.ensures.count in
    subst (λ (cells : List IntegerCell). AreOfObjects cells (length c.note_tables.new.noted.items))
    (sym c.deref-2.ensures.value)
    (of_objects c.args.grouping (laid_tree c.args.program.now.laid) c.in_ok-cells.cells.items c.in_ok-cells.ensures _
    (omega (arith, count, len, same, again)))

pub returns : goal.returns
returns c =
    let count = c.in_ok-noted.ensures.count in
    let len = c.key_count.ensures in
    all_noted c.args.grouping (laid_tree c.args.program.now.laid) (program_with c.args.program.now c.args.facts.now)
    (lists_of c.args.tables.now) c.args.store.now.weak c.in_ok-cells.cells.items c.in_ok-cells.ensures
    c.deref.result.now c.deref-2.result.now c.deref.ensures.value c.deref-2.ensures.value
    (length c.args.tables.now) (sym (length-map c.args.tables.now (λ v. v.items))) c.in_ok-noted.noted.items
    c.note_initial.new.noted.items c.note_tables.new.noted.items c.note_weak.new.noted.items
    (omega (arith, count, len)) c.in_ok-noted.ensures.none c.note_initial.ensures
    c.note_tables.ensures c.note_weak.ensures
