use Rattle.std.proofs.Common.{◌≡◌, map, drop}
use Rattle.std.specs.List.{list_all}
use Rattle.log_baselines.specs.Suppressions.{is_reasoned}
use Rattle.log_baselines.specs.reading.Seen.{value_seen}
use Rattle.log_baselines.proofs.suppressions.are_reasoned.Given as goal

abbrev pub invariant-loop-found : goal.invariant-loop-found
invariant-loop-found l =
    list_all is_reasoned (map value_seen l.results)
    ≡ list_all is_reasoned (map value_seen (drop l.found-index l.results))
