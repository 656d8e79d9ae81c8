use Rattle.std.proofs.Common.{◌≡◌, ◌++◌, drop, All}
use Rattle.std.specs.List.{flat_map}
use Rattle.strided_dom.specs.Progression.{IsInReach}
use Rattle.thresholds.specs.Thresholds.{of_given}
use Rattle.thresholds.proofs.lists.push_given.Given as goal

-- the thresholds so far, which are in reach, and those of what is left
abbrev pub invariant-loop-number : goal.invariant-loop-number
invariant-loop-number l = (l.ends.items ++ flat_map of_given (drop l.number-index l.given) ≡ l.initial.ends.items ++ flat_map of_given l.given) × All IsInReach l.ends.items
