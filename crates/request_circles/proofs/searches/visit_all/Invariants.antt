use Rattle.std.proofs.Common.{◌<◌}
use Rattle.request_circles.specs.reading.Steps.{IsStepLeft}
use Rattle.request_circles.specs.reading.Searches.{HasVisited}
use Rattle.request_circles.proofs.searches.visit_all.Given as goal

abbrev pub invariant-loop-to : goal.invariant-loop-to
invariant-loop-to l =
    HasVisited (λ k. (k < l.to) × IsStepLeft l.requests l.left.marks.items l.ahead l.from k)
    l.initial.reached.marks.items l.reached.marks.items l.initial.waiting.items l.waiting.items
