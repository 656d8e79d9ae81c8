use Rattle.std.proofs.Common.{◌≡◌, map, take}
use Rattle.unit_plans.specs.reading.Tables.{viewed}
use Rattle.unit_plans.proofs.linkages.views.Given as goal

abbrev pub invariant-loop-known : goal.invariant-loop-known
invariant-loop-known l = l.names.items ≡ map (viewed l.view) (take l.known-index l.knowns)
