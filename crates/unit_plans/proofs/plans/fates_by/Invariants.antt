use Rattle.std.proofs.Common.{◌≡◌, map, take}
use Rattle.unit_plans.specs.Linkages.{Lists}
use Rattle.unit_plans.specs.Plans.{fate_of}
use Rattle.unit_plans.specs.reading.Tables.{AreTables}
use Rattle.unit_plans.proofs.plans.fates_by.Given as goal

abbrev pub invariant-loop-known : goal.invariant-loop-known
invariant-loop-known l = (lists : Lists) → AreTables l.tables lists
    → l.fates.items ≡ map (fate_of lists) (take l.known-index l.knowns)
