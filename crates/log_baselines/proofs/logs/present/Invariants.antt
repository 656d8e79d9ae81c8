use Rattle.std.proofs.Common.{◌≡◌, map, take}
use Rattle.std.specs.Prelude.{filter, not}
use Rattle.serde_json.specs.View.{view}
use Rattle.log_baselines.specs.Logs.{is_absent}
use Rattle.log_baselines.specs.reading.Seen.{value_seen}
use Rattle.log_baselines.proofs.logs.present.Given as goal

abbrev pub invariant-loop-value : goal.invariant-loop-value
invariant-loop-value l =
    map value_seen l.found.items ≡ filter (λ value. not (is_absent value)) (map view (take l.value-index l.results))
