use Rattle.std.proofs.Common.{◌≡◌, suc, ◌-◌, length}
use Rattle.tm_typed.specs.StaticValues.{scalar_in, scalar_at}
use Rattle.c_initialisers.specs.reading.Cells.{found_tree}
use Rattle.c_initialisers.proofs.scalars.scalar_at.Given as goal

-- what is left of the way leads to the scalar
abbrev pub invariant-inside : goal.invariant-inside
invariant-inside l = scalar_in l.scope (suc (suc (length l.scope.types)) - l._depth) (found_tree l.found) ≡ scalar_at l.scope l.of l.cell
