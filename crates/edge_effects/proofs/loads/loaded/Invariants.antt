use Rattle.interfere_set.proofs.Reading.{IsJoinedUpTo}
use Rattle.std.specs.FinMap.{get}
use Rattle.calculations.specs.transfer_rows.Rows.{found_in}
use Rattle.edge_actions.specs.Edges.{around_of}
use Rattle.edge_effects.proofs.loads.loaded.Given as goal

abbrev pub invariant-loop-cell : goal.invariant-loop-cell
invariant-loop-cell l = IsJoinedUpTo (λ x. found_in (around_of l.view) l.store x (get l.state.cells x)) l.cells l.cell-index l.value
