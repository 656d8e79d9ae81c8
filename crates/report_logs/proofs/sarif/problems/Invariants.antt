use Rattle.std.proofs.Common.{◌≡◌, map, take}
use Rattle.report_views.specs.reading.Seen.{spot_seen}
use Rattle.report_logs.specs.Sarif.{problems}
use Rattle.report_logs.proofs.sarif.problems.Given as goal

abbrev pub invariant-loop-spot : goal.invariant-loop-spot
invariant-loop-spot l = l.count ≡ problems (map spot_seen (take l.spot-index l.spots))
