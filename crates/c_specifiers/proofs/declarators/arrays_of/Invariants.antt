use Rattle.std.proofs.Common.{◌≡◌, drop, take}
use Rattle.tm_typed.specs.States.{in_scope}
use Rattle.tm_typed.specs.Declarators.{arrays_of}
use Rattle.c_specifiers.proofs.declarators.arrays_of.Given as goal

abbrev pub invariant-lengths : goal.invariant-lengths
invariant-lengths l =
    (arrays_of (l.made, l.state.scope) (take l.left l.lengths.items) ≡ arrays_of (l.initial.made, l.initial.state.scope) (take l.initial.left l.initial.lengths.items))
    × (l.state ≡ in_scope l.initial.state l.state.scope)
    × (drop l.left l.lengths.items ≡ drop l.initial.left l.initial.lengths.items)

abbrev pub decreases-lengths : goal.decreases-lengths
decreases-lengths l = l.left
