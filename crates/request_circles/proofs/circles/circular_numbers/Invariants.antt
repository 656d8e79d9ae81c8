use Rattle.std.proofs.Common.{◌≡◌, ℕ, ◌<◌, length}
use Rattle.request_circles.specs.reading.Steps.{IsMarked, IsOnCircle, AreLeft}
use Rattle.request_circles.proofs.circles.circular_numbers.Given as goal

abbrev pub invariant-loop-number : goal.invariant-loop-number
invariant-loop-number l =
    record {
      left_count : length l.left.marks.items ≡ length l.requests;
      count : length l.found.marks.items ≡ length l.requests;
      left : AreLeft l.requests l.left.marks.items;
      sound : (k : ℕ) → IsMarked l.found.marks.items k → IsOnCircle l.requests k;
      decided : (k : ℕ) → k < l.number → IsOnCircle l.requests k → IsMarked l.found.marks.items k;
    }
