use Rattle.std.proofs.Common.{◌≡◌, take}
use Rattle.program_equality.proofs.alike.are_alike.Given as goal

abbrev pub invariant-loop-index : goal.invariant-loop-index
invariant-loop-index g l = take l.index l.one ≡ take l.index l.other
