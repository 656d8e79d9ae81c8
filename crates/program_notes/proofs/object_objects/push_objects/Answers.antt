use Rattle.std.proofs.Common.{◌+◌, ◌++◌, ◌∙◌, ap, arith}
use Rattle.std.proofs.lemmas.List.{get_or_default}
use Rattle.std.specs.Prelude.{None}
use Rattle.notes_json.proofs.Listed.{passing_more, next_if, others_then, others_else}
use Rattle.program_notes.specs.ObjectTexts.{is_listed, listed_below, object_at}
use Rattle.program_notes.specs.reading.Choices.{object_if}
use Rattle.program_notes.proofs.object_objects.push_objects.Goals.{then-others, else-others}
use Rattle.program_notes.proofs.object_objects.push_objects.Goals as goal

pub loop-at-preserved : goal.loop-at-preserved
loop-at-preserved c =
    let bytes = c.args.bytes.now in
    let bounds = c.args.bounds.now in
    let objects = c.args.objects.now in
    let details = c.args.details.now in
    let numbers = c.args.numbers.now in
    let at = c.loop-at.at in
    let lt = c.loop-at-test.true in
    let found = c.in_ok-found.found.items in
    let long = c.in_ok-found.ensures.long in
    let so_far = c.loop-at.invariant in
    let xs = listed_below numbers at in
    let ys = listed_below numbers (at + 1) in
    let is = is_listed numbers at in
    let more = passing_more (is_listed numbers) at in
    record {
      written =
          next_if 44 (object_at bytes bounds objects details) xs ys at is c.loop-at.others c.args.text.now.items more
          so_far.others so_far.written
          (c.in_ok-push_object_if.ensures
          ∙ ap (λ of. c.loop-at.text.items ++ object_if bytes of objects details numbers c.loop-at.others at)
          (c.index.ensures ∙ get_or_default found at c.index.result.now None (omega (arith, long, lt))
          ∙ c.in_ok-found.ensures.each at lt));
      others = elim c.if-others.branch [
        | then-others w ↦
            others_then xs ys at is c.loop-at.others c.if-others.others more so_far.others w.if-others.true
            (w.others-is ∙ w.if-others.true)
        | else-others w ↦
            others_else xs ys at is c.loop-at.others c.if-others.others more so_far.others w.if-others.false
            (w.others-is ∙ w.is_listed-others.ensures)
      ];
    }
