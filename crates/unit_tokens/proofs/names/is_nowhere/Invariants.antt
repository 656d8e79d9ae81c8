use Rattle.std.proofs.Common.{ℕ, ◌<◌, length, take, drop}
use Rattle.std.specs.Prelude.{◌≢◌}
use Rattle.unit_tokens.proofs.names.is_nowhere.Given as goal

abbrev pub invariant-loop-k : goal.invariant-loop-k
invariant-loop-k l = (k : ℕ) → k < l.k → take (length l.mark) (drop k l.text) ≢ l.mark
