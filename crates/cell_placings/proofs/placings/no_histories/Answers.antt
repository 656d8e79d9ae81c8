use Rattle.std.proofs.Common.{◌≡◌, [], ◌∷◌, ◌++◌, ap, ◌∙◌, replicate, arith}
use Rattle.std.proofs.lemmas.List.{replicate_more}
use Rattle.cell_placings.proofs.placings.no_histories.Goals as goal

pub loop-preserved : goal.loop-preserved
loop-preserved c =
    c.in_ok-push.ensures.items
    ∙ (λ i. c.loop.invariant i ++ c.new.ensures i ∷ []) ∙ replicate_more c.loop.counter []

pub returns : goal.returns
returns c =
    let ends : c.loop.counter ≡ c.args.cells = omega (arith, c.loop-test.false, c.loop.auto.counter-end) in
    c.loop.invariant ∙ ap (λ n. replicate n []) ends
