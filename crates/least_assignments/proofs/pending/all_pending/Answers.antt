use Rattle.std.proofs.Common.{◌∙◌, ◌++◌, ◌∷◌, [], ap, length, get_or, true, arith}
use Rattle.std.proofs.lemmas.List.{replicate_more, length-replicate}
use Rattle.least_assignments.proofs.Everywhere.{same_anywhere}
use Rattle.least_assignments.proofs.pending.all_pending.Goals as goal

pub loop-preserved : goal.loop-preserved
loop-preserved c =
    c.in_ok-push.ensures.items ∙ ap (λ xs. xs ++ true ∷ []) c.loop.invariant ∙ replicate_more c.loop.counter true

pub returns : goal.returns
returns c =
    let counted = ap length c.loop.invariant ∙ length-replicate c.loop.counter true in (
      omega (arith, counted, c.loop-test.false, c.loop.auto.counter-end),
      λ k lt. ap (λ xs. get_or xs k true) c.loop.invariant ∙ same_anywhere true c.loop.counter k,
    )
