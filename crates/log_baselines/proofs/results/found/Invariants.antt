use Rattle.std.proofs.Common.{◌≡◌, ◌++◌, drop, map}
use Rattle.std.specs.Prelude.{string_bytes}
use Rattle.serde_json.specs.View.{view}
use Rattle.log_baselines.specs.Results.{found}
use Rattle.log_baselines.specs.reading.Seen.{value_seen}
use Rattle.log_baselines.proofs.results.found.Given as goal

abbrev pub invariant-loop-i : goal.invariant-loop-i
invariant-loop-i l =
    found l.compared (map string_bytes l.olds.keys.now) (map value_seen l.olds.results.now) (map string_bytes l.keys)
    (map view l.remarks) (map value_seen l.results)
    ≡ map view l.values.items
    ++ found l.compared (map string_bytes l.olds.keys.now) (map value_seen l.olds.results.now)
    (drop l.i (map string_bytes l.keys)) (drop l.i (map view l.remarks)) (drop l.i (map value_seen l.results))
