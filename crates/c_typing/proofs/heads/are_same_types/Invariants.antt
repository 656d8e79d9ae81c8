use Rattle.std.proofs.Common.{◌≡◌, drop}
use Rattle.tm_typed.specs.Functions.{are_same_types}
use Rattle.c_typing.proofs.heads.are_same_types.Given as goal

abbrev pub invariant-types : goal.invariant-types
invariant-types l = are_same_types l.scope (drop l.i l.left) (drop l.i l.right) ≡ are_same_types l.scope l.left l.right
