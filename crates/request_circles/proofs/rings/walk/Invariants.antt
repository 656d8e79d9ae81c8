use Rattle.std.proofs.Common.{◌-◌, length}
use Rattle.request_circles.specs.reading.Classes.{number_at}
use Rattle.request_circles.specs.reading.Nearest.{IsOnWay}
use Rattle.request_circles.proofs.rings.walk.Given as goal

abbrev pub invariant-loop-next : goal.invariant-loop-next
invariant-loop-next l = IsOnWay l.heads l.end l.noted.far.items l.fn.first l.ring.items l.next

abbrev pub decreases-loop-next : goal.decreases-loop-next
decreases-loop-next l = number_at l.noted.far.items l.end - length l.ring.items
