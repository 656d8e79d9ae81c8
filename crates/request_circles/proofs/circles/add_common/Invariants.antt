use Rattle.request_circles.specs.reading.Circles.{HasCommon}
use Rattle.request_circles.proofs.circles.add_common.Given as goal

abbrev pub invariant-loop-number : goal.invariant-loop-number
invariant-loop-number l =
    HasCommon l.one.marks.items l.other.marks.items l.initial.found.marks.items l.found.marks.items
