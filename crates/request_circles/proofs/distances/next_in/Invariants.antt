use Rattle.std.proofs.Common.{ℕ, ◌<◌, false, get_or}
use Rattle.request_circles.specs.reading.Steps.{IsStepLeft}
use Rattle.request_circles.proofs.distances.next_in.Given as goal

abbrev pub invariant-loop-index : goal.invariant-loop-index
invariant-loop-index l = (i : ℕ) → i < l.index
    → IsStepLeft l.requests l.left.marks.items false (get_or l.frontier i 0) l.number → ⊥
