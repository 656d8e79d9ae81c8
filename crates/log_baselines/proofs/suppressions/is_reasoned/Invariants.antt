use Rattle.std.proofs.Common.{◌≡◌, map, drop}
use Rattle.std.specs.Prelude.{filter}
use Rattle.std.specs.List.{list_all}
use Rattle.serde_json.specs.View.{view}
use Rattle.log_baselines.specs.Suppressions.{has_reason, is_kept}
use Rattle.log_baselines.proofs.suppressions.is_reasoned.Given as goal

abbrev pub invariant-loop-suppression : goal.invariant-loop-suppression
invariant-loop-suppression l =
    list_all has_reason (filter is_kept (map view l.all))
    ≡ list_all has_reason (filter is_kept (map view (drop l.suppression-index l.all)))
