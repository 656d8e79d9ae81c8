use Rattle.std.proofs.Common.{◌≡◌, length}
use Rattle.source_names.proofs.calls.call_places.Given as goal

-- one list for each function so far
abbrev pub invariant-loop-function : goal.invariant-loop-function
invariant-loop-function l = length l.places.items ≡ l.function-index
