use Rattle.std.proofs.Common.{◌≡◌, ◌++◌, drop}
use Rattle.c_scope.proofs.declarations.Declarations+Binding.since.Given as goal

abbrev pub invariant-loop-binding : goal.invariant-loop-binding
invariant-loop-binding l = l.found.items ++ drop l.binding-index l.binding-items ≡ drop l.start l.self
