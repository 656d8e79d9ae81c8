use Rattle.std.proofs.Common.{take}
use Rattle.std.specs.Prelude.{All}
use Rattle.unit_tokens.specs.Fates.{IsRightlyLeft}
use Rattle.unit_tokens.proofs.fates.are_rightly_left.Given as goal

abbrev pub invariant-loop-one : goal.invariant-loop-one
invariant-loop-one l = All (IsRightlyLeft l.fated) (take l.one-index l.fated)
