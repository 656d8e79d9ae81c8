use Rattle.std.proofs.Common.{◌≡◌, length}
use Rattle.unit_plans.specs.Plans.{open_place}
use Rattle.unit_plans.proofs.plans.open_place.Given as goal

abbrev pub invariant-loop-left : goal.invariant-loop-left
invariant-loop-left l = open_place l.sights ≡ open_place l.left

abbrev pub decreases-loop-left : goal.decreases-loop-left
decreases-loop-left l = length l.left
