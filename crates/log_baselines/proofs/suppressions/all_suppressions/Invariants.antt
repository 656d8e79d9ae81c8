use Rattle.std.proofs.Common.{◌≡◌, map, take}
use Rattle.serde_json.specs.View.{view}
use Rattle.log_baselines.proofs.suppressions.all_suppressions.Given as goal

abbrev pub invariant-loop-suppression : goal.invariant-loop-suppression
invariant-loop-suppression l = map view l.values.items ≡ map view (take l.suppression-index l.all)
