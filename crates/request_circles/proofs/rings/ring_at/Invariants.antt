use Rattle.request_circles.specs.reading.Nearest.{IsNearestAt}
use Rattle.request_circles.proofs.rings.ring_at.Given as goal

abbrev pub invariant-loop-number : goal.invariant-loop-number
invariant-loop-number l =
    IsNearestAt l.requests l.classes.heads.items l.classes.numbers.items l.left.marks.items l.place l.number
    l.best.items
