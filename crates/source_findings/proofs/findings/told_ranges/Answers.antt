use Rattle.std.proofs.Common.{◌<◌, List, length, subst, sym, arith, pos, slice_index_or}
use Rattle.program_solutions.specs.program_systems.ReadPrograms.{ReadProgram, program_of}
use Rattle.tm_laid.specs.declared.objects.LaidObject.{LaidObject}
use Rattle.value_ranges.specs.declared.object_bounds.ObjectBounds.{ObjectBounds}
use Rattle.source_findings.proofs.Listed.{listed_there}
use Rattle.source_findings.proofs.findings.told_ranges.Goals as goal

pub push_bounds-requires : goal.push_bounds-requires
push_bounds-requires c =
    let at = c.loop-bounds.bounds-index in
    let none : ObjectBounds = record { object = 0; low = pos 0; high = pos 0 } in
    let told = c.args.ranges.now in
    let objects : List LaidObject = c.deref.result.now in
    let there = listed_there _ _ _ told.bounds.items c.requires.bounds at none
    (omega (arith, c.loop-bounds-test.true, c.loop-bounds.auto.bounds-index-end, c.deref-bounds-items.ensures.len)) in
    let here = subst (λ (r : ReadProgram). (let p = program_of r in let l = p.laid in
    (slice_index_or told.bounds.items at none).object < length l.objects)) c.parts.ensures.program there in
    subst (λ (list : List ObjectBounds). (slice_index_or list at none).object < length objects)
    (sym c.deref-bounds-items.ensures.value)
    (subst (λ (of : List LaidObject). (slice_index_or told.bounds.items at none).object < length of)
    (sym c.deref.ensures.value) here)
