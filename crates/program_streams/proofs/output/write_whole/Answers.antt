use Rattle.std.proofs.Common.{sym, ◌∙◌, ap, ◌++◌}
use Rattle.std.proofs.lemmas.List.{take_rest}
use Rattle.program_streams.proofs.Written.{piece_written}
use Rattle.program_streams.proofs.output.write_whole.Goals as goal

pub loop-rest-preserved : goal.loop-rest-preserved
loop-rest-preserved g c =
    let step = piece_written c.args.text.now c.loop-rest.invariant.0.0 c.loop-rest.rest.now c.in_ok-count.count _ _ _
    c.loop-rest.invariant.0.1 c.loop-rest.invariant.0.2 c.in_ok-count.ensures.appends in (
      (step.0, step.1 ∙ ap (λ r. step.0 ++ r) (sym (take_rest c.loop-rest.rest.now c.in_ok-count.count)), step.2),
      c.in_ok-count.ensures.cause.succeeded ∙ c.loop-rest.invariant.1,
    )
