use Rattle.std.proofs.Common.{◌≡◌, List, Option, map, take}
use Rattle.unit_plans.specs.Linkages.{far_name}
use Rattle.unit_plans.specs.declared.declarations.Local.{Local}
use Rattle.unit_plans.specs.reading.Tables.{IsTable}
use Rattle.unit_plans.proofs.linkages.fars.Given as goal

abbrev pub invariant-loop-known : goal.invariant-loop-known
invariant-loop-known l = (names : List (Option Local)) → IsTable l.standings names
    → l.fars.items ≡ map (far_name l.knowns names) (take l.known-index l.knowns)
