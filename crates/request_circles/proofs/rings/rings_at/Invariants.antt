use Rattle.request_circles.specs.reading.Nearest.{AreNearest}
use Rattle.request_circles.proofs.rings.rings_at.Given as goal

abbrev pub invariant-loop-index : goal.invariant-loop-index
invariant-loop-index l =
    AreNearest l.requests l.classes.heads.items l.classes.numbers.items l.left.marks.items l.places l.index
    l.rings.items
