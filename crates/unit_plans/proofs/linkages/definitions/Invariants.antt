use Rattle.std.proofs.Common.{◌≡◌, List, Option, map, take}
use Rattle.unit_plans.specs.Linkages.{defined_name}
use Rattle.unit_plans.specs.declared.declarations.Local.{Local}
use Rattle.unit_plans.specs.reading.Tables.{IsTable}
use Rattle.unit_plans.proofs.linkages.definitions.Given as goal

abbrev pub invariant-loop-known : goal.invariant-loop-known
invariant-loop-known l = (names : List (Option Local)) → IsTable l.internals names
    → l.made.items ≡ map (defined_name names) (take l.known-index l.knowns)
