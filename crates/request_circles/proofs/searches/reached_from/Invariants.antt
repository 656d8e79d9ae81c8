use Rattle.std.proofs.Common.{◌+◌, ◌-◌, length}
use Rattle.request_circles.specs.reading.Searches.{IsSearching}
use Rattle.request_circles.specs.reading.Trims.{marked}
use Rattle.request_circles.proofs.searches.reached_from.Given as goal

abbrev pub invariant-loop-number : goal.invariant-loop-number
invariant-loop-number l =
    IsSearching l.requests l.left.marks.items l.ahead l.from l.reached.marks.items l.waiting.items

abbrev pub decreases-loop-number : goal.decreases-loop-number
decreases-loop-number l = length l.requests - marked l.reached.marks.items + length l.waiting.items
