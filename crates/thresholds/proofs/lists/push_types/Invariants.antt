use Rattle.std.proofs.Common.{◌≡◌, ◌++◌, drop, All}
use Rattle.std.specs.List.{flat_map}
use Rattle.strided_dom.specs.Progression.{IsInReach}
use Rattle.thresholds.specs.Thresholds.{ends_of}
use Rattle.thresholds.proofs.lists.push_types.Given as goal

-- the thresholds so far, which are in reach, and those of what is left
abbrev pub invariant-loop-of : goal.invariant-loop-of
invariant-loop-of l = (l.ends.items ++ flat_map ends_of (drop l.of-index l.types) ≡ l.initial.ends.items ++ flat_map ends_of l.types) × All IsInReach l.ends.items
