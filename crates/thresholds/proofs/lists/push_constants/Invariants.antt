use Rattle.std.proofs.Common.{◌≡◌, ◌++◌, drop, All}
use Rattle.std.specs.List.{flat_map}
use Rattle.strided_dom.specs.Progression.{IsInReach}
use Rattle.thresholds.specs.Thresholds.{of_constant}
use Rattle.thresholds.proofs.lists.push_constants.Given as goal

-- the thresholds so far, which are in reach, and those of what is left
abbrev pub invariant-loop-constant : goal.invariant-loop-constant
invariant-loop-constant l = (l.ends.items ++ flat_map of_constant (drop l.constant-index l.constants) ≡ l.initial.ends.items ++ flat_map of_constant l.constants) × All IsInReach l.ends.items
