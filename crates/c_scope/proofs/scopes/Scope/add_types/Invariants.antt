use Rattle.std.proofs.Common.{◌≡◌, drop}
use Rattle.c_scope.specs.reading.Starts.{with_types}
use Rattle.c_scope.proofs.scopes.Scope.add_types.Given as goal

abbrev pub invariant-types : goal.invariant-types
invariant-types l = with_types l.self (drop l.ctype-index l.ctypes) ≡ with_types l.initial.self l.ctypes
