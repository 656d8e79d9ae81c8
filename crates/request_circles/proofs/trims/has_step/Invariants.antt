use Rattle.std.proofs.Common.{ℕ, ◌<◌}
use Rattle.request_circles.specs.reading.Steps.{IsStepLeft}
use Rattle.request_circles.proofs.trims.has_step.Given as goal

abbrev pub invariant-loop-to : goal.invariant-loop-to
invariant-loop-to l = (j : ℕ) → j < l.to → IsStepLeft l.requests l.left.marks.items l.ahead l.from j → ⊥
