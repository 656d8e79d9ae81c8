use Rattle.std.proofs.Common.{◌≡◌, take, length}
use Rattle.c_scope.proofs.positions.Positions.truncate.Given as goal

abbrev pub invariant-names : goal.invariant-names
invariant-names l = take l.len l.self ≡ take l.len l.initial.self

abbrev pub decreases-names : goal.decreases-names
decreases-names l = length l.self
