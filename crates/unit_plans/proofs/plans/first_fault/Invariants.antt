use Rattle.std.proofs.Common.{◌≡◌, length}
use Rattle.unit_plans.specs.Linkages.{Lists}
use Rattle.unit_plans.specs.Plans.{first_fault}
use Rattle.unit_plans.specs.reading.Tables.{AreTables}
use Rattle.unit_plans.proofs.plans.first_fault.Given as goal

abbrev pub invariant-loop-left : goal.invariant-loop-left
invariant-loop-left l = (lists : Lists) → AreTables l.tables lists
    → first_fault l.knowns lists l.knowns ≡ first_fault l.knowns lists l.left

abbrev pub decreases-loop-left : goal.decreases-loop-left
decreases-loop-left l = length l.left
