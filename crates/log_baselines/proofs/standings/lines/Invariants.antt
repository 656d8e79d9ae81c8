use Rattle.std.proofs.Common.{◌≡◌, map, take}
use Rattle.std.specs.List.{flat_map}
use Rattle.serde_json.specs.View.{view}
use Rattle.log_baselines.specs.Standings.{standing_line}
use Rattle.log_baselines.proofs.standings.lines.Given as goal

abbrev pub invariant-loop-found : goal.invariant-loop-found
invariant-loop-found l = l.text.items ≡ flat_map standing_line (map view (take l.found-index l.results))
