use Rattle.std.proofs.Common.{◌≡◌, drop}
use Rattle.tm_laid.specs.Objects.{with_given}
use Rattle.cell_layout.proofs.initial.put_all.Given as goal

abbrev pub invariant-loop-cell : goal.invariant-loop-cell
invariant-loop-cell l = with_given l.numbers (drop l.cell-index l.cells) l.values.items ≡ with_given l.numbers l.cells l.initial.values.items
