use Rattle.std.proofs.Common.{◌≡◌, ◌++◌, drop}
use Rattle.c_scope.proofs.scopes.Scope.add_names.Given as goal

abbrev pub invariant-names : goal.invariant-names
invariant-names l = record l.self { names = l.self.names ++ drop l.binding-index l.names } ≡ record l.initial.self { names = l.initial.self.names ++ l.names }
