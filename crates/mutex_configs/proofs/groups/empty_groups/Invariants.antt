use Rattle.std.proofs.Common.{◌≡◌, [], length, ℕ}
use Rattle.mutex_configs.specs.reading.Groups.{list_of}
use Rattle.mutex_configs.proofs.groups.empty_groups.Given as goal

abbrev pub invariant-loop : goal.invariant-loop
invariant-loop l = (length l.groups.items ≡ l.counter) × ((p : ℕ) → list_of l.groups.items p ≡ [])
