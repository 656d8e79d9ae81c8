use Rattle.std.proofs.Common.{◌∙◌, ap, arith, length}
use Rattle.program_notes.proofs.FirstBounds.{noted_long, next_noted}
use Rattle.program_notes.proofs.object_objects.bounds_by_object.Goals as goal

pub loop-of-preserved : goal.loop-of-preserved
loop-of-preserved c =
    let so_far = c.loop-of.invariant in
    let long = so_far.long in
    record {
      long = ap length c.note.ensures ∙ noted_long c.loop-of.found.items _ ∙ long;
      each = λ n lt.
          next_noted c.args.bounds.now c.loop-of.of-index _ c.loop-of.found.items c.note.new.found.items n
          c.loop-of-test.true (omega (arith, lt, long)) (so_far.each n lt) c.note.ensures;
    }
