use Rattle.std.proofs.Common.{◌<◌, []}
use Rattle.request_circles.specs.reading.Distances.{HasLevel}
use Rattle.request_circles.proofs.distances.note_level.Given as goal

abbrev pub invariant-loop-number : goal.invariant-loop-number
invariant-loop-number l =
    HasLevel l.requests l.left.marks.items l.frontier l.steps (λ k. k < l.number)
    l.initial.noted.far.items l.initial.noted.next.items [] l.noted.far.items l.noted.next.items l.found.items
