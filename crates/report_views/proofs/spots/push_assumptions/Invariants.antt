use Rattle.std.proofs.Common.{◌≡◌, ◌++◌, map, take}
use Rattle.report_views.specs.Spots.{assumed_by}
use Rattle.report_views.proofs.spots.push_assumptions.Given as goal

abbrev pub invariant-loop-assumption : goal.invariant-loop-assumption
invariant-loop-assumption l =
    l.findings.items ≡ l.initial.findings.items ++ map assumed_by (take l.assumption-index l.assumptions)
