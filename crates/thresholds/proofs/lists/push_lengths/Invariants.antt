use Rattle.std.proofs.Common.{◌≡◌, ◌++◌, drop, All}
use Rattle.std.specs.List.{flat_map}
use Rattle.strided_dom.specs.Progression.{IsInReach}
use Rattle.thresholds.specs.Thresholds.{of_length}
use Rattle.thresholds.proofs.lists.push_lengths.Given as goal

-- the thresholds so far, which are in reach, and those of what is left
abbrev pub invariant-loop-length : goal.invariant-loop-length
invariant-loop-length l = (l.ends.items ++ flat_map of_length (drop l.length-index l.lengths) ≡ l.initial.ends.items ++ flat_map of_length l.lengths) × All IsInReach l.ends.items
