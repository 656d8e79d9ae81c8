use Rattle.std.proofs.Common.{◌≡◌, drop}
use Rattle.std.specs.List.{list_all}
use Rattle.tm_typed.specs.declared.scopes.Binding.{Binding}
use Rattle.tm_typed.specs.Structures.{is_from_zero}
use Rattle.c_scope.proofs.declarations.Declarations+Binding.are_from_zero.Given as goal

-- what is left decides
abbrev pub invariant-loop-binding : goal.invariant-loop-binding
invariant-loop-binding l = list_all (λ (d : Binding). is_from_zero d.named) (drop l.binding-index l.binding-items) ≡ list_all (λ (d : Binding). is_from_zero d.named) l.initial.binding-items
