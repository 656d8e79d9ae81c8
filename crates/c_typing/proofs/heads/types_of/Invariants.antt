use Rattle.std.proofs.Common.{◌≡◌, ◌++◌, drop}
use Rattle.tm_typed.specs.Functions.{types_of}
use Rattle.c_typing.proofs.heads.types_of.Given as goal

abbrev pub invariant-locals : goal.invariant-locals
invariant-locals l = l.types.items ++ types_of (drop l.local-index l.locals) ≡ types_of l.locals
