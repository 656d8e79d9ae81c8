use Rattle.std.proofs.Common.{map, take}
use Rattle.std.specs.Prelude.{string_bytes}
use Rattle.log_baselines.specs.reading.Seen.{IsIndex}
use Rattle.log_baselines.proofs.keys.index_of.Given as goal

abbrev pub invariant-loop-i : goal.invariant-loop-i
invariant-loop-i l = IsIndex l.index (take l.i (map string_bytes l.keys))
