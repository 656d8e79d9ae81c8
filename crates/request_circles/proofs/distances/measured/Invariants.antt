use Rattle.std.proofs.Common.{◌+◌, ◌<◌, ◌≤◌, length}
use Rattle.request_circles.specs.reading.Distances.{unnoted, AreNoted}
use Rattle.request_circles.proofs.distances.measured.Given as goal

abbrev pub invariant-loop-alloc : goal.invariant-loop-alloc
invariant-loop-alloc l =
    record {
      noted : AreNoted l.requests l.left.marks.items l.end l.noted.far.items l.noted.next.items l.steps
          l.frontier.items;
      bound : 0 < length l.frontier.items → l.steps + unnoted l.noted.far.items ≤ length l.requests + 1;
    }

abbrev pub decreases-loop-alloc : goal.decreases-loop-alloc
decreases-loop-alloc l = unnoted l.noted.far.items + length l.frontier.items
