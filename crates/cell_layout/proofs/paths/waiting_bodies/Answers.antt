use Rattle.std.proofs.Common.{◌+◌, ◌++◌, ◌∙◌, ℕ, List, drop, ap, arith}
use Rattle.cell_layout.specs.declared.paths.Waiting.{Waiting}
use Rattle.cell_layout.specs.reading.Waits.{bodies_waiting}
use Rattle.cell_layout.proofs.PathSteps.{body_more}
use Rattle.cell_layout.proofs.paths.waiting_bodies.Goals as goal

pub loop-function-preserved : goal.loop-function-preserved
loop-function-preserved c =
    let bodies : List ℕ = c.args.bodies.now in
    let i : ℕ = c.loop-function.function-index in
    let body : ℕ = c.loop-function.body in
    let same = c.loop-function.invariant.0 in (
      omega (arith, same),
      ap (λ (ws : List Waiting). ws ++ bodies_waiting (body + 1) (drop (i + 1) bodies)) c.in_ok-push.ensures.items
          ∙ body_more body i bodies c.loop-function.waiting.items (bodies_waiting 0 bodies)
          c.loop-function-test.true c.loop-function.invariant.1,
    )
