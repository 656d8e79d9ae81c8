use Rattle.std.proofs.Common.{◌∙◌, ◌++◌, ◌∷◌, [], ap, length, get_or, None, arith}
use Rattle.std.proofs.lemmas.List.{replicate_more, length-replicate}
use Rattle.least_assignments.proofs.Everywhere.{same_anywhere}
use Rattle.least_assignments.proofs.work_list.no_values.Goals as goal

pub loop-preserved : goal.loop-preserved
loop-preserved g c =
    c.in_ok-push.ensures.items ∙ ap (λ xs. xs ++ None ∷ []) c.loop.invariant ∙ replicate_more c.loop.counter None

pub returns : goal.returns
returns g c =
    let counted = ap length c.loop.invariant ∙ length-replicate c.loop.counter None in (
      omega (arith, counted, c.loop-test.false, c.loop.auto.counter-end),
      λ n. ap (λ xs. get_or xs n None) c.loop.invariant ∙ same_anywhere None c.loop.counter n,
    )
