use Rattle.std.proofs.Common.{◌≡◌, take, map}
use Rattle.tm_laid.specs.Objects.{nothing_given}
use Rattle.cell_layout.proofs.initial.zeros.Given as goal

abbrev pub invariant-loop-cell : goal.invariant-loop-cell
invariant-loop-cell l = l.values.items ≡ map (λ c. nothing_given c.scalar) (take l.cell-index l.cell-items)
