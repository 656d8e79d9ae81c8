use Rattle.std.proofs.Common.{◌≡◌, ◌++◌, map, take}
use Rattle.report_views.specs.Spots.{found_by}
use Rattle.report_views.proofs.spots.push_places.Given as goal

abbrev pub invariant-loop-place : goal.invariant-loop-place
invariant-loop-place l =
    l.findings.items ≡ l.initial.findings.items ++ map (found_by l.rule) (take l.place-index l.places)
