use Rattle.std.proofs.Common.{◌≡◌, ℕ, List, ◌++◌, map, drop}
use Rattle.std.specs.Prelude.{option_map}
use Rattle.log_baselines.specs.Logs.{prints_of}
use Rattle.log_baselines.specs.reading.Seen.{text_seen, value_seen}
use Rattle.log_baselines.proofs.logs.prints_of.Given as goal

abbrev pub invariant-loop-value : goal.invariant-loop-value
invariant-loop-value l =
    prints_of (map value_seen l.results)
    ≡ option_map (λ (rest : List (List ℕ)). map text_seen l.prints.items ++ rest)
    (prints_of (map value_seen (drop l.value-index l.results)))
