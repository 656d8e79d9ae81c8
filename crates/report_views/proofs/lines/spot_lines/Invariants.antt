use Rattle.std.proofs.Common.{◌≡◌, map, take}
use Rattle.std.specs.List.{flat_map}
use Rattle.report_views.specs.Lines.{spot_line}
use Rattle.report_views.specs.reading.Seen.{spot_seen}
use Rattle.report_views.proofs.lines.spot_lines.Given as goal

abbrev pub invariant-loop-spot : goal.invariant-loop-spot
invariant-loop-spot l = l.text.items ≡ flat_map spot_line (map spot_seen (take l.spot-index l.spots))
