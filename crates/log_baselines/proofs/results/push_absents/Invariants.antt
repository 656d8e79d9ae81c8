use Rattle.std.proofs.Common.{◌≡◌, ◌++◌, drop, map}
use Rattle.std.specs.Prelude.{string_bytes}
use Rattle.serde_json.specs.View.{view}
use Rattle.log_baselines.specs.Results.{absents}
use Rattle.log_baselines.specs.reading.Seen.{value_seen}
use Rattle.log_baselines.proofs.results.push_absents.Given as goal

abbrev pub invariant-loop-i : goal.invariant-loop-i
invariant-loop-i l =
    map view l.initial.values.items
    ++ absents (map string_bytes l.keys) (map string_bytes l.old_keys) (map value_seen l.olds)
    ≡ map view l.values.items
    ++ absents (map string_bytes l.keys) (drop l.i (map string_bytes l.old_keys)) (drop l.i (map value_seen l.olds))
