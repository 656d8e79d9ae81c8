use Rattle.std.proofs.Common.{◌≡◌, length}
use Rattle.unit_plans.specs.Copies.{is_same_text}
use Rattle.unit_plans.proofs.copies.is_same_text.Given as goal

abbrev pub invariant-loop-left : goal.invariant-loop-left
invariant-loop-left l = is_same_text l.one l.other ≡ is_same_text l.left l.right

abbrev pub decreases-loop-left : goal.decreases-loop-left
decreases-loop-left l = length l.left
