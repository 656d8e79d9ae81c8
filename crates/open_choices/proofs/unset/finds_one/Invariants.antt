use Rattle.operand_orders.specs.reading.Views.{solved}
use Rattle.open_choices.specs.Unset.{FindsUnset}
use Rattle.open_choices.proofs.Searching.{NoneSo}
use Rattle.open_choices.proofs.unset.finds_one.Given as goal

abbrev pub invariant-loop-cell : goal.invariant-loop-cell
invariant-loop-cell l = NoneSo (FindsUnset (solved l.view) l.edge l.state) l.cells l.cell-index
