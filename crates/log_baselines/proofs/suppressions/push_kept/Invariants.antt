use Rattle.std.proofs.Common.{◌≡◌, ◌++◌, map, take}
use Rattle.std.specs.Prelude.{filter}
use Rattle.serde_json.specs.View.{view}
use Rattle.log_baselines.specs.Suppressions.{is_kept}
use Rattle.log_baselines.proofs.suppressions.push_kept.Given as goal

abbrev pub invariant-loop-suppression : goal.invariant-loop-suppression
invariant-loop-suppression l =
    map view l.suppressions.items
    ≡ map view l.initial.suppressions.items ++ filter is_kept (map view (take l.suppression-index l.all))
