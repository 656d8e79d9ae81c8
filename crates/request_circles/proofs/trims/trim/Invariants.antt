use Rattle.std.proofs.Common.{◌≡◌, length}
use Rattle.request_circles.specs.reading.Steps.{AreLeft}
use Rattle.request_circles.specs.reading.Trims.{marked}
use Rattle.request_circles.proofs.trims.trim.Given as goal

abbrev pub invariant-loop : goal.invariant-loop
invariant-loop l =
    record {
      left : AreLeft l.requests l.left.marks.items;
      count : length l.left.marks.items ≡ length l.initial.left.marks.items;
    }

abbrev pub decreases-loop : goal.decreases-loop
decreases-loop l = marked l.left.marks.items
