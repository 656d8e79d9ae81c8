use Rattle.std.proofs.Common.{◌≡◌, map, take}
use Rattle.std.specs.Prelude.{count_by}
use Rattle.serde_json.specs.View.{view}
use Rattle.log_baselines.specs.Standings.{stands}
use Rattle.log_baselines.proofs.standings.count_of.Given as goal

abbrev pub invariant-loop-found : goal.invariant-loop-found
invariant-loop-found l = l.count ≡ count_by (stands l.standing) (map view (take l.found-index l.results))
