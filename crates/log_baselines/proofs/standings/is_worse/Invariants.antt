use Rattle.std.proofs.Common.{◌≡◌, map, drop}
use Rattle.std.specs.List.{list_any}
use Rattle.serde_json.specs.View.{view}
use Rattle.log_baselines.specs.Standings.{stands}
use Rattle.log_baselines.specs.declared.standings.Standing.TheVariants.{New}
use Rattle.log_baselines.proofs.standings.is_worse.Given as goal

abbrev pub invariant-loop-found : goal.invariant-loop-found
invariant-loop-found l =
    list_any (stands New) (map view l.results) ≡ list_any (stands New) (map view (drop l.found-index l.results))
